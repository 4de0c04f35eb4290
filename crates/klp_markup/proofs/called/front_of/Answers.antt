use Rattle.std.proofs.Common.{◌≡◌, ℕ, List, take, sym, ap, subst, ◌∙◌, arith}
use Rattle.klp_markup.specs.Called.{last_begin}
use Rattle.klp_markup.proofs.CalledLemmas.{begins_before, begins_here, begins_first}
use Rattle.klp_markup.proofs.called.front_of.Goals.{then-loop-end-test+else-goes_on, else-loop-end-test}
use Rattle.klp_markup.proofs.called.front_of.Goals as goal

pub loop-end-preserved : goal.loop-end-preserved
loop-end-preserved c = (
  omega arith,
  begins_before c.loop-end.end c.args.name.now (omega arith) (sym c.goes_on.ensures ∙ c.if-goes_on.true) ∙ c.loop-end.invariant.1,
)

-- a character begins where the loop ends
pub returns : goal.returns
returns c =
    let name = c.args.name.now in
    let end = c.loop-end.end in
    let cut : last_begin end name ≡ end → take end name ≡ take (last_begin 32 name) name = λ here. ap (λ n. take n name) (sym here ∙ c.loop-end.invariant.1) in
    elim c.loop-end-test.branch [
      | then-loop-end-test+else-goes_on w ↦ cut (begins_here end name (sym w.goes_on.ensures ∙ w.if-goes_on.false))
      | else-loop-end-test w ↦ cut (first_here end name (omega arith))
    ]
  where
    first_here : (end : ℕ) (name : List ℕ) → end ≡ 0 → last_begin end name ≡ end
    first_here end name first = subst (λ (n : ℕ). last_begin n name ≡ n) (sym first) (begins_first name)
