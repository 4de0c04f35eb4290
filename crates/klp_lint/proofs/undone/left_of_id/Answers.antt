use Rattle.std.proofs.Common.{subst, Some}
use Rattle.klp_lint.specs.Undone.{AreRestored}
use Rattle.klp_lint.proofs.UndoneLemmas.{ArePassed, passed_first, passed_next}
use Rattle.klp_lint.proofs.undone.left_of_id.Goals as goal

pub loop-next-init : goal.loop-next-init
loop-next-init g c = passed_first (g.V.Variables.values c.args.variables.now) c.args.callbacks.now c.args.id c.next_parent-next.result c.next_parent-next.ensures

pub loop-next-preserved : goal.loop-next-preserved
loop-next-preserved g c =
    let values = g.V.Variables.values c.args.variables.now in
    let callbacks = c.args.callbacks.now in
    passed_next values callbacks c.args.id c.in-Some.obj
    (subst (ArePassed values callbacks c.args.id) c.in-Some.is c.loop-next.invariant)
    (subst (AreRestored callbacks (record { obj = c.in-Some.obj; id = c.args.id })) c.get.ensures c.in_default-first_unrestored.ensures)
    c.next_parent-next-in-Some.result c.next_parent-next-in-Some.ensures
