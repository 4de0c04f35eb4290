-- Which versions block a sleeping task, and the tasks after the sleepers were tried.
use Rattle.std.specs.Prelude.{ℕ, suc, Bool, true, false, not, ◌==◌, ◌&&◌, List, [], ◌∷◌, ◌++◌, map, Option, Some, None, option_map, if◌then◌else◌}
use Rattle.std.specs.List.{list_any, count_by}
use Rattle.klp_types.specs.declared.version.Version.{Version}
use Rattle.klp_types.specs.declared.version.Version.TheVariants.{Original, New}
use Rattle.klp_types.specs.declared.version.Entry.{Entry}
use Rattle.klp_types.specs.declared.version.Transition.{Transition}
use Rattle.klp_types.specs.declared.task.Mode.TheVariants.{Asleep}
use Rattle.klp_types.specs.Image.{Symbol, symbols_of}
use Rattle.klp_types.specs.Setting.{Setting}
use Rattle.klp_types.specs.declared.task.Task.{Task}
use Rattle.klp_model.specs.Task.{Tasks, is_mode, is_at, at_target, in_state}
use Rattle.klp_model.specs.State.{State}
use Rattle.klp_model.specs.Entries.{entries_of}
use Rattle.klp_types.specs.Pick.{version_of, newest_version}

abbrev pub is_version : Version → Version → Bool
is_version (Original site) (Original other) = site == other
is_version (New patch function) (New other number) = patch == other && function == number
is_version own other = false

-- the version that an entry of the patch in transition blocks: towards target 0 its own, towards target 1 the one
-- below it
abbrev pub held_version : ℕ → Bool → Entry → List Entry → Version
held_version site true entry older = newest_version site older
held_version site false entry older = version_of site entry.func entry.patch

-- the blocked version of a site with these entries, if there is one
abbrev pub blocked_among : ℕ → Transition → List Entry → List Version
blocked_among site move [] = []
blocked_among site move (entry ∷ older) =
    if entry.patch == move.patch then held_version site move.target entry older ∷ [] else blocked_among site move older

-- the blocked versions of symbols in order; the first symbol has this site
abbrev pub blocked_from : Setting → State → Transition → ℕ → List Symbol → List Version
blocked_from setting state move site [] = []
blocked_from setting state move site (symbol ∷ symbols) =
    blocked_among site move (entries_of setting state site) ++ blocked_from setting state move (suc site) symbols

-- the versions that a task mustn't be inside of when it switches
abbrev pub blocked : Setting → State → Transition → List Version
blocked setting state move = blocked_from setting state move 0 (symbols_of setting.image.objects)

-- whether one of the frames is blocked
abbrev pub is_held : List Version → List Version → Bool
is_held blocked frames = list_any (λ frame. list_any (is_version frame) blocked) frames

-- a sleeping task is switched to the target unless one of its frames is blocked
abbrev pub switched : List Version → Bool → Task → Task
switched blocked target task =
    if is_mode task.mode Asleep && not (is_held blocked task.frames) then in_state (at_target target) task else task

-- the tasks after the sleepers were tried
abbrev pub tried : Setting → State → Transition → Tasks
tried setting state move = map (option_map (switched (blocked setting state move) move.target)) state.tasks

abbrev pub lags : Bool → Option Task → Bool
lags target None = false
lags target (Some task) = not (is_at target task.state)

-- how many tasks aren't at the target after that
abbrev pub pending : Setting → State → Transition → ℕ
pending setting state move = count_by (lags move.target) (tried setting state move)
