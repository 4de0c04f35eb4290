use Rattle.klp_capture.specs.Shown.{judged_items}
use Rattle.klp_capture.proofs.ShownLemmas.{stand-take}
use Rattle.klp_capture.proofs.capture.Capture.first_not_shown.Goals as goal

-- one more sample stands behind those so far
pub loop-number-preserved : goal.loop-number-preserved
loop-number-preserved c =
    stand-take (judged_items c.args.self.now c.args.forced c.args.patches.now c.args.threads.now) c.args.samples.now c.loop-number.number _ _ _ _
    c.loop-number-test.true c.loop-number.invariant (c.in_ok-judged_stands.ensures c.if-not-branch.false)
