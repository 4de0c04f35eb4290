use Rattle.std.proofs.Common.{arith}
use Rattle.klp_types.specs.declared.limits.TheConstants.{MAX_TASKS}
use Rattle.klp_tasks.specs.Members.{has}
use Rattle.klp_core.specs.Holders.{lag_at}
use Rattle.klp_core.proofs.HoldersLemmas.{all_effective}
use Rattle.klp_core.proofs.holders.lags.Goals as goal

pub returns : goal.returns
returns c =
    all_effective (lag_at (has c.args.blocked.now) c.args.moving.now) c.args.tasks.now c.loop-number.lags MAX_TASKS c.loop-number.invariant.0 c.get-rows.ensures.limit
    (λ n below. c.loop-number.invariant.1 n (omega (arith, below, c.loop-number-test.false)))
