-- The receipt's row stands last in the list, which was longer by it than what was known before.
use Rattle.std.proofs.Common.{[], ◌∷◌, ◌++◌, length, ap, sym, ◌∙◌, arith, length-append}
use Rattle.klp_live_bodies.proofs.Beginnings.{begins_shorter}
use Rattle.klp_live_bodies.proofs.run.submitted.Goals as goal

pub returns-in-Ok-clause-came : goal.returns-in-Ok-clause-came
returns-in-Ok-clause-came g c =
    let answered = c.in-Ok.ensures.outcome in
    let parts = c.into_parts-number.ensures in
    let longer = ap length answered.list ∙ length-append answered.older ((c.args.event, c.in-Ok.receipt.reply) ∷ []) in
    let shorter = begins_shorter c.args.pass.now.knows.list answered.older answered.knew in
    let number = parts.number ∙ answered.number in
    rw c.new.ensures (record {
      event_is = parts.event ∙ answered.event_is;
      number = number;
      later = omega (arith, number, longer, shorter);
      well_formed = (answered.older, answered.list ∙ ap (λ r. answered.older ++ (c.args.event, r) ∷ []) (sym parts.reply));
    })
