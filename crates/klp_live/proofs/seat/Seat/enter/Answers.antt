-- An answer that was taken is the answer of the rows that are known then; one that wasn't leaves what was known.
use Rattle.std.proofs.Common.{rules, ◌≡◌, Err, inl, inr, ⊎_elim, ap, subst, ◌∙◌}
use mathlib.Core.List.{IsPrefix}
use Rattle.klp_model.specs.Legal.{History}
use Rattle.klp_live.specs.Seats.{Knows}
use Rattle.klp_live.specs.declared.target.EnterFault.TheVariants.{NoTable}
use Rattle.klp_live.proofs.seat.Seat.enter.Goals as goal

pub returns-in-Some-answer : goal.returns-in-Some-answer
returns-in-Some-answer g c =
    let known = c.self.inside.front in
    let after = c.adopt.new.front in
    let answer = c.in-Some-answer.answer in
    ⊎_elim
    (λ (w : (c.adopt.result ≡ Err NoTable) × (after ≡ known)). inl (w.0, ap (λ (l : History). record { list = l; accepted = c.self.inside.share.amount }) w.1 ∙ c.self.view_is))
    (λ (w : (c.adopt.result ≡ answer.found) × (after ≡ answer.front) × IsPrefix known after). inr (record {
      answered = rw (w.0, w.1) (search rules);
      begins = subst (λ (k : Knows). IsPrefix k.list after) c.self.view_is w.2;
      accepted = ap (λ (k : Knows). k.accepted) c.self.view_is;
    }))
    c.adopt.ensures
