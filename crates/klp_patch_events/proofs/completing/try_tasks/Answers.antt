use Rattle.std.proofs.Common.{sym, ap, ◌∙◌}
use Rattle.std.specs.List.{count_by}
use Rattle.klp_model.specs.Blocked.{blocked, lags}
use Rattle.klp_manager_state.specs.Managed.{setting_in, state_in}
use Rattle.klp_patch_events.proofs.CompleteTaskLemmas.{kept_tried}
use Rattle.klp_patch_events.proofs.completing.try_tasks.Goals as goal

pub returns-then-lagging-eq0-clause-parts : goal.returns-then-lagging-eq0-clause-parts
returns-then-lagging-eq0-clause-parts g c =
    let before = c.args.state.now in
    let move = c.args.moving.now in
    let versions = blocked (setting_in before c.args.catalog.now) (state_in before c.args.catalog.now) move in
    let same = c.where_none_lags_none_is_switched.ensures versions move.target before.tasks (sym c.lagging.ensures ∙ c.if-lagging-eq0.true) in
    ap (λ tasks. record before { tasks = tasks; log = c.clear.new.self }) (sym same)

pub returns-then-lagging-eq0-clause-left : goal.returns-then-lagging-eq0-clause-left
returns-then-lagging-eq0-clause-left g c =
    let before = c.args.state.now in
    let move = c.args.moving.now in
    let versions = blocked (setting_in before c.args.catalog.now) (state_in before c.args.catalog.now) move in
    let same = c.where_none_lags_none_is_switched.ensures versions move.target before.tasks (sym c.lagging.ensures ∙ c.if-lagging-eq0.true) in
    sym (ap (count_by (lags move.target)) same ∙ sym c.lagging.ensures ∙ c.if-lagging-eq0.true)

pub returns-clause-kept : goal.returns-clause-kept
returns-clause-kept g c =
    kept_tried c.args.state.now c.switch_sleepers.new.state c.args.catalog.now c.args.moving.now c.requires.kept c.requires.moving c.switch_sleepers.ensures.parts c.switch_sleepers.ensures.log
