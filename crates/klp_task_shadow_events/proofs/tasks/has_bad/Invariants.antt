use Rattle.std.proofs.Common.{◌≡◌, drop}
use Rattle.std.specs.List.{list_any}
use Rattle.klp_model.specs.Frames.{is_bad}
use Rattle.klp_manager_state.specs.Managed.{setting_in}
use Rattle.klp_task_shadow_events.proofs.tasks.has_bad.Given as goal

-- whether one of those that are left is bad
abbrev pub invariant-loop-version : goal.invariant-loop-version
invariant-loop-version g l =
    list_any (is_bad (setting_in l.state l.catalog)) (drop l.version-index l.versions)
    ≡ list_any (is_bad (setting_in l.state l.catalog)) l.versions
