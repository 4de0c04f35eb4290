use Rattle.std.proofs.Common.{◌≡◌, ℕ, ◌-◌, ◌∙◌, Bool, List, None, Some, ap, drop, position, take, length, not, sym, arith, length-drop, rules, tests}
use Rattle.std.proofs.lemmas.List.{take_all}
use Rattle.std.proofs.lemmas.List.Sums.{prefix_len-le-length}
use Rattle.std.proofs.lemmas.Iterator.{YieldsList-from_slice}
use Rattle.std.proofs.lemmas.Iterator.Search.{position_from_yields_List}
use Rattle.std.specs.List.{position_or_len}
use Rattle.klp_words.specs.Split.{separates, is_either}
use Rattle.klp_words.proofs.SplitLemmas.{no_words, next_word}
use Rattle.klp_words.proofs.split.LineWords.next.Goals as goal

pub returns-in_err-start : goal.returns-in_err-start
returns-in_err-start c =
    let separating = separates c.self.inside.separators in
    let same : is_either 32 c.beside_space-other.result ≡ separating = λ i b. c.beside_space-other.ensures b i in
    let bytes : List ℕ = c.self.inside.rest.now in
    let first = position_from_yields_List (λ b. not (is_either 32 c.beside_space-other.result b)) _ _ c.position.result c.position.ensures.ran (YieldsList-from_slice bytes cc) (λ x b q k. search (rules, tests)) in
    let none : c.position.result ≡ None = search rules in
    let no = no_words separating bytes (ap (λ (p : ℕ → Bool). position (λ b. not (p b)) bytes) (sym same) ∙ sym first ∙ none) in
    search rules

pub split_at-requires : goal.split_at-requires
split_at-requires c =
    let line = take (length c.self.inside.rest.now - c.in_ok-start.start) (drop c.in_ok-start.start c.self.inside.rest.now) in
    omega (arith, c.first_of-end.ensures, prefix_len-le-length (λ b. not (is_either 32 c.beside_space-other.result b)) line)

pub returns : goal.returns
returns c =
    let separating = separates c.self.inside.separators in
    let same : is_either 32 c.beside_space-other.result ≡ separating = λ i b. c.beside_space-other.ensures b i in
    let bytes : List ℕ = c.self.inside.rest.now in
    let start = c.in_ok-start.start in
    let line = take (length bytes - start) (drop start bytes) in
    let from : line ≡ drop start bytes = take_all (length bytes - start) (drop start bytes) (omega (arith, length-drop start bytes)) in
    let first = position_from_yields_List (λ b. not (is_either 32 c.beside_space-other.result b)) _ _ c.position.result c.position.ensures.ran (YieldsList-from_slice bytes cc) (λ x b q k. search (rules, tests)) in
    let some : c.position.result ≡ Some start = search rules in
    let gap = ap (λ (p : ℕ → Bool). position (λ b. not (p b)) bytes) (sym same) ∙ sym first ∙ some in
    let end = c.first_of-end.ensures ∙ ap (λ (p : ℕ → Bool). position_or_len p line) same in
    sym c.self.view_is
    ∙ next_word separating bytes line c.split_at.result.0.now c.split_at.result.1.now start gap from
    (c.split_at.ensures.front ∙ ap (λ n. take n line) end) (c.split_at.ensures.back ∙ ap (λ n. drop n line) end)
