use Rattle.std.proofs.Common.{arith, None}
use Rattle.klp_types.specs.declared.limits.TheConstants.{MAX_TASKS}
use Rattle.klp_page.specs.Views.{wait_by}
use Rattle.klp_page.proofs.ViewLemmas.{all_filled}
use Rattle.klp_page.proofs.view.waits.Goals as goal

pub returns : goal.returns
returns c =
    all_filled wait_by c.args.lags.now None c.loop-number.waits None MAX_TASKS c.loop-number.invariant.0 c.type_inv.lags
    (λ n below. c.loop-number.invariant.1 n (omega (arith, below, c.loop-number-test.false)))
