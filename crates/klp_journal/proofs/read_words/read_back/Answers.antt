use Rattle.std.proofs.Common.{◌≡◌, ℕ, ◌+◌, ◌-◌, ◌/◌, ◌%◌, ◌≤◌, List, ◌++◌, length, take, drop, get_or, Some, sym, ap, ◌∙◌, refl, arith}
use Rattle.std.proofs.lemmas.Bool.{eqb-false}
use Rattle.std.proofs.lemmas.Option.{same_Some}
use Rattle.klp_types.specs.declared.record.Record.{Record}
use Rattle.klp_journal.specs.Words.{words_of, IsRecord, IsBody}
use Rattle.klp_journal.proofs.BackLemmas.{read, every}
use Rattle.klp_journal.proofs.read_words.read_back.Goals as goal

module _ (words : List ℕ) (some : length words ≡ 0 → ⊥) (fits : get_or words (length words - 1) 0 / 256 ≤ length words - 1) where
  abbrev last : ℕ
  last = length words - 1

  abbrev tag : ℕ
  tag = get_or words last 0

  abbrev count : ℕ
  count = tag / 256

  abbrev body : List ℕ
  body = take (last - (last - count)) (drop (last - count) words)

  long : length words ≡ last + 1
  long = omega (arith, some)

  cut : body ≡ take count (drop (last - count) words)
  cut = let all : last - (last - count) ≡ count = omega (arith, fits) in ap (λ n. take n (drop (last - count) words)) all

  read_row : (row : Record) → IsBody (tag % 256) body row → (older : List ℕ) × ((words ≡ older ++ words_of row) × (count + 1 ≡ length (words_of row)) × IsRecord row)
  read_row = read words body last count tag long refl refl fits cut

  every_row : (older : List ℕ) (row : Record) → IsRecord row → words ≡ older ++ words_of row → IsBody (tag % 256) body row
  every_row = every words body last count tag long refl refl fits cut

pub returns-in-Some-clause-read : goal.returns-in-Some-clause-read
returns-in-Some-clause-read c =
    let some : length c.args.words.now ≡ 0 → ⊥ = eqb-false _ 0 (sym c.is_empty.ensures ∙ c.if-is_empty.false) in
    read_row c.args.words.now some c.if-count-last.false c.in-Some.row c.in-Some.ensures.has

pub returns-in-Some-clause-every : goal.returns-in-Some-clause-every
returns-in-Some-clause-every c =
    λ older row h e.
    let words = c.args.words.now in
    let some : length words ≡ 0 → ⊥ = eqb-false _ 0 (sym c.is_empty.ensures ∙ c.if-is_empty.false) in
    let is = every_row words some c.if-count-last.false older row h e in
    let same : c.in-Some.row ≡ row = same_Some c.in-Some.row row (c.in-Some.ensures.only row is) in
    let long = (read_row words some c.if-count-last.false row is).1.1 in
    ap (λ own. Some (own, count words some c.if-count-last.false + 1)) same ∙ ap (λ n. Some (row, n)) long
