-- What comparing one item with the rules comes to: what was observed is so, or how it differs.
use Rattle.std.specs.Prelude.{◌≡◌, ℕ, Bool, true, false, List, [], ◌∷◌, ◌++◌, Option, Some, None, option_map, is_ok, if◌then◌else◌}
use Rattle.klp_types.specs.declared.task.Task.{Task}
use Rattle.klp_types.specs.declared.version.Target.{Target}
use Rattle.klp_types.specs.declared.version.Version.{Version}
use Rattle.klp_types.specs.Setting.{Setting}
use Rattle.klp_types.specs.Pick.{moves}
use Rattle.klp_model.specs.declared.event.Event.{Event}
use Rattle.klp_model.specs.declared.seen.Seen.{Seen}
use Rattle.klp_model.specs.declared.seen.Seen.TheVariants.{Event as Happens}
use Rattle.klp_model.specs.State.{State, is_installed}
use Rattle.klp_model.specs.Task.{task_at}
use Rattle.klp_model.specs.Refusals.{enabled_value}
use Rattle.klp_model.specs.Pick.{pick}
use Rattle.klp_model.specs.Entries.{is_site_loaded, is_hooked}
use Rattle.klp_model.specs.Observed.{Stacks, Watched, IsHonestEvent}
use Rattle.klp_journal.specs.Journal.{Group}
use Rattle.klp_manager_state.specs.Managed.{setting_of}
use Rattle.klp_core.specs.Journaled.{Journaled}
use Rattle.klp_core.specs.Taking.{answer_in}
use Rattle.klp_watch.specs.declared.cause.Cause.{Cause}
use Rattle.klp_watch.specs.declared.observed.Observed.{Observed}
use Rattle.klp_watch.specs.declared.observed.Observed.TheVariants.{Seen as Item, Answered, Saw}
use Rattle.klp_watch.specs.declared.observed.Sight.{Sight}
use Rattle.klp_watch.specs.declared.observed.Sight.TheVariants.{State as StateSeen, Files as FilesSeen, Version as VersionSeen, Text as TextSeen}
use Rattle.klp_watch.specs.declared.observed.PatchFiles.{PatchFiles}
use Rattle.klp_watch.specs.declared.difference.Difference.{Difference}
use Rattle.klp_watch.specs.declared.difference.Difference.TheVariants.{Premise, Answer, State as OtherState, Files as OtherFiles, Version as OtherVersion, Text as OtherText}
use Rattle.klp_watch.specs.Inside.{AreInside}
use Rattle.klp_watch.specs.Watching.{IsAgainst, IsCause, IsDone, moment_of, once_taken_back}

-- what the files of a patch read; they are there while it is installed
abbrev pub files_of : State → ℕ → Option PatchFiles
files_of state patch =
    if is_installed state patch then Some (record { enabled = enabled_value state patch; transition = moves state.moving patch }) else None

-- the state shows what was seen: a task's state, what a patch's files read, the version that a task gets where it calls a site, and
-- whether the text of a site is hooked, which only a loaded object has
abbrev pub Shows : Setting → State → Sight → Type 0
Shows setting state (StateSeen task own) = option_map (λ (t : Task). t.state) (task_at state.tasks task) ≡ own
Shows setting state (FilesSeen patch files) = files_of state patch ≡ files
Shows setting state (VersionSeen task site version) = option_map (λ (t : Target). t.version) (pick setting state task site) ≡ Some version
Shows setting state (TextSeen site hooked) = (is_site_loaded setting state site ≡ true) × (is_hooked setting state site ≡ hooked)

-- how the kernel differs from the rules where the state doesn't show what was seen
abbrev pub other_than : Sight → Difference
other_than (StateSeen task own) = OtherState
other_than (FilesSeen patch files) = OtherFiles
other_than (VersionSeen task site version) = OtherVersion
other_than (TextSeen site hooked) = OtherText

-- what `watch` takes of an item: what was seen is nothing that happens, and an answered event is its event
abbrev pub taken_of : Observed → List Seen
taken_of (Item item) = item ∷ []
taken_of (Answered event answer) = Happens event ∷ []
taken_of (Saw sight) = []

abbrev pub taken_from : List Observed → List Seen
taken_from [] = []
taken_from (item ∷ items) = taken_of item ++ taken_from items

-- an item is so where the state is this and the journal has these groups: the event is answered as by the kernel, the state shows what
-- was seen
abbrev pub IsSo : Setting → State → List Group → Observed → Type 0
IsSo setting state groups (Item item) = Unit {0}
IsSo setting state groups (Answered event answer) = answer_in setting state groups event ≡ answer
IsSo setting state groups (Saw sight) = Shows setting state sight

-- an item is so at a manager
abbrev pub IsSoAt : Journaled → Observed → Type 0
IsSoAt manager item = IsSo (setting_of manager.managed) manager.managed.state manager.groups item

-- one item is so, and was done where tasks were inside of this, and now they are inside of what the table has
abbrev pub IsDoneSo : Journaled → Journaled → Stacks → Observed → List (List Version) → Type 0
IsDoneSo before after stacks (Item item) table = IsDone before after stacks item table
IsDoneSo before after stacks (Answered event answer) table =
    IsDone before after stacks (Happens event) table × IsSoAt before (Answered event answer)
IsDoneSo before after stacks (Saw sight) table = (after ≡ before) × AreInside table stacks × IsSoAt before (Saw sight)

-- an accepted event differs by the premise that it breaks, and else by its answer, which isn't that of the rules
abbrev pub IsFound : Setting → Stacks → Event → Bool → Difference → Type 0
IsFound setting stacks event same (Premise cause) = IsAgainst setting stacks event cause
IsFound setting stacks event same Answer = (same ≡ false) × IsHonestEvent setting stacks event
IsFound setting stacks event same difference = ⊥

-- a kernel differs at an item in this. Where an event breaks a premise, its answer isn't asked
abbrev pub DiffersIn : Setting → Watched → List Group → Observed → Difference → Type 0
DiffersIn setting w groups (Item item) (Premise cause) = IsCause setting w groups item cause
DiffersIn setting w groups (Answered event answer) (Premise cause) = IsCause setting w groups (Happens event) cause
DiffersIn setting w groups (Answered event answer) Answer =
    (IsSo setting w.state groups (Answered event answer) → ⊥) × ((cause : Cause) → IsCause setting w groups (Happens event) cause → ⊥)
DiffersIn setting w groups (Saw sight) difference = (difference ≡ other_than sight) × (IsSo setting w.state groups (Saw sight) → ⊥)
DiffersIn setting w groups item difference = ⊥

-- state and journal as they were; the callbacks of an event that was accepted and taken back have run
abbrev pub once_differing : Journaled → Observed → Journaled
once_differing before (Item item) = once_taken_back before item
once_differing before (Answered event answer) =
    if is_ok (answer_in (setting_of before.managed) before.managed.state before.groups event) then once_taken_back before (Happens event) else before
once_differing before (Saw sight) = before

-- an item was told for this, where tasks are inside of this, and left nothing
pub record IsReportedFor (before after : Journaled) (stacks : Stacks) (item : Observed) (difference : Difference) : Type 0 where
  pub why : DiffersIn (setting_of before.managed) (moment_of before stacks) before.groups item difference
  pub left : after ≡ once_differing before item
