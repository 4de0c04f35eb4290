use Rattle.std.proofs.Common.{ℕ, arith, None}
use Rattle.klp_types.specs.declared.limits.TheConstants.{MAX_TASKS}
use Rattle.klp_model.specs.Task.{task_at}
use Rattle.klp_manager_state.specs.Managed.{setting_of}
use Rattle.klp_page.specs.Views.{stay_in}
use Rattle.klp_page.proofs.ViewLemmas.{all_filled, one_filled}
use Rattle.klp_page.proofs.view.stays.Goals as goal

pub loop-number-preserved : goal.loop-number-preserved
loop-number-preserved g c =
    let managed = c.args.manager.now.managed in
    one_filled (λ (n : ℕ). stay_in (setting_of managed) managed.state (task_at managed.state.tasks n)) c.loop-number.stays None c.stay_in.result c.loop-number.number
    MAX_TASKS c.loop-number.invariant.0 c.loop-number-test.true c.loop-number.invariant.1 c.stay_in.ensures

pub returns : goal.returns
returns g c =
    let managed = c.args.manager.now.managed in
    all_filled (stay_in (setting_of managed) managed.state) managed.state.tasks None c.loop-number.stays None MAX_TASKS c.loop-number.invariant.0 c.mode-rows.ensures.rows
    (λ n below. c.loop-number.invariant.1 n (omega (arith, below, c.loop-number-test.false)))
