use Rattle.std.proofs.Common.{◌≡◌, ℕ, List, ◌++◌, sym, ap, ◌∙◌}
use Rattle.std.proofs.lemmas.Bool.Decides.{Decides-eqb}
use Rattle.std.proofs.lemmas.Slice.Eq.{strip_suffix_is}
use Rattle.klp_trace.proofs.LineLemmas.{line_front, no_front}
use Rattle.klp_trace.proofs.answer.is_line_of.Goals as goal

pub returns-in-Some : goal.returns-in-Some
returns-in-Some c =
    let cut = rw c.in-Some.is at (strip_suffix_is Decides-eqb c.args.line.now c.as_slice.result.now c.strip_suffix.result c.strip_suffix.ensures.cases) in
    c.eq.ensures
    ∙ line_front c.in-Some.front.now c.args.text.now c.args.line.now
    (cut ∙ ap (λ (q : List ℕ). c.in-Some.front.now ++ q) c.as_slice.ensures)

pub returns-in-None : goal.returns-in-None
returns-in-None c =
    let cut = rw c.in-None.is at (strip_suffix_is Decides-eqb c.args.line.now c.as_slice.result.now c.strip_suffix.result c.strip_suffix.ensures.cases) in
    no_front c.args.text.now c.args.line.now
    (λ front e. cut front (e ∙ sym (ap (λ (q : List ℕ). front ++ q) c.as_slice.ensures)))
