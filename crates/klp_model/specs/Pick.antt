-- The version of a function that a task runs.
use Rattle.std.specs.Prelude.{ℕ, ℤ, Option, Some, None, if◌then◌else◌}
use Rattle.klp_types.specs.declared.version.Target.{Target}
use Rattle.klp_types.specs.Setting.{Setting}
use Rattle.klp_types.specs.Pick.{entries_for, newest_version, target_of}
use Rattle.klp_types.specs.declared.task.Task.{Task}
use Rattle.klp_model.specs.Task.{task_at}
use Rattle.klp_model.specs.State.{State}
use Rattle.klp_model.specs.Entries.{is_site_loaded, entries_of}

-- what a task with this patch state (-1, 0 or 1) runs at a site; None if the site's object isn't loaded
abbrev pub pick_in : Setting → State → ℤ → ℕ → Option Target
pick_in setting state own site =
    if is_site_loaded setting state site
    then target_of setting (newest_version site (entries_for state.moving own (entries_of setting state site)))
    else None

abbrev pub pick_by : Setting → State → ℕ → Option Task → Option Target
pick_by setting state site None = None
pick_by setting state site (Some task) = pick_in setting state task.state site

-- what a task runs at a site; None if there is no such task
abbrev pub pick : Setting → State → ℕ → ℕ → Option Target
pick setting state task site = pick_by setting state site (task_at state.tasks task)
