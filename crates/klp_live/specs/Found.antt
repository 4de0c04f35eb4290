-- What a call runs, by the state alone.
use Rattle.std.specs.Prelude.{ℕ, Bool, true, false, Option, Some, None, Result, Ok, Err, unwrap_or}
use Rattle.klp_types.specs.declared.task.Task.{Task}
use Rattle.klp_types.specs.declared.version.Target.{Target}
use Rattle.klp_types.specs.declared.version.Version.{Version}
use Rattle.klp_types.specs.Pick.{entries_for, newest_version, address_of}
use Rattle.klp_types.specs.Setting.{Setting}
use Rattle.klp_model.specs.State.{State}
use Rattle.klp_model.specs.Task.{task_at}
use Rattle.klp_model.specs.Entries.{is_site_loaded, entries_of}
use Rattle.klp_live.specs.declared.target.EnterFault.{EnterFault}
use Rattle.klp_live.specs.declared.target.EnterFault.TheVariants.{NoSite, NoTask}

-- a version with its address
abbrev pub begun : Setting → Version → Target
begun setting version = record { version = version; address = unwrap_or (address_of setting version) 0 }

-- what a call runs, if its site is one of a loaded object and its task exists
abbrev pub entered_if : Setting → State → ℕ → Bool → Option Task → Result Target EnterFault
entered_if setting state site false own = Err NoSite
entered_if setting state site true None = Err NoTask
entered_if setting state site true (Some task) = Ok (begun setting (newest_version site (entries_for state.moving task.state (entries_of setting state site))))

-- what the model picks for the task at the site
abbrev pub entered : Setting → State → ℕ → ℕ → Result Target EnterFault
entered setting state task site = entered_if setting state site (is_site_loaded setting state site) (task_at state.tasks task)
