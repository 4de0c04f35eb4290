use Rattle.std.proofs.Common.{◌≡◌, drop}
use Rattle.klp_model.specs.Task.{task_at}
use Rattle.klp_manager_state.specs.Managed.{setting_of}
use Rattle.klp_page.specs.Views.{is_current, else_of, innermost_outside}
use Rattle.klp_page.proofs.view.outdated_among.Given as goal

-- what is found so far, unless one is found further inside
abbrev pub invariant-loop-version : goal.invariant-loop-version
invariant-loop-version g l =
    let managed = l.fn.manager.managed in
    let runs = is_current (setting_of managed) managed.state (task_at managed.state.tasks l.fn.task) in
    else_of (innermost_outside runs (drop l.version-index l.fn.versions)) l.found ≡ innermost_outside runs l.fn.versions
