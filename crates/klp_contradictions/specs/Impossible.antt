-- What a sample shows of a task, and when no honest run shows it at any moment.
use Rattle.std.specs.Prelude.{◌≡◌, ℕ, ℤ, pos, negsuc, Bool, true, false, not, ◌==◌, List, ◌∷◌, ◌++◌, Option, Some, None, is_some, if◌then◌else◌}
use Rattle.std.specs.List.{list_any}
use Rattle.klp_types.specs.declared.version.Version.{Version}
use Rattle.klp_types.specs.declared.version.Version.TheVariants.{Original, New}
use Rattle.klp_types.specs.declared.version.Entry.{Entry}
use Rattle.klp_types.specs.declared.task.Task.{Task}
use Rattle.klp_types.specs.Setting.{Setting, replaces}
use Rattle.klp_types.specs.Entries.{patches_site}
use Rattle.klp_types.specs.Pick.{moves}
use Rattle.klp_model.specs.Task.{task_at}
use Rattle.klp_model.specs.State.{State, is_installed, installed_patches, is_moving}
use Rattle.klp_model.specs.Entries.{entries_of}
use Rattle.klp_model.specs.Blocked.{is_version}
use Rattle.klp_model.specs.Refusals.{enabled_value}
use Rattle.klp_model.specs.declared.event.Event.TheVariants.{NewTask, Fork}
use Rattle.klp_model.specs.declared.seen.Seen.{Seen}
use Rattle.klp_model.specs.declared.seen.Seen.TheVariants.{Event as Happens, Call as Calls, Return as Returns}
use Rattle.klp_model.specs.Observed.{Watched, IsHonestRun, seen_from, versions}
use Rattle.klp_model.specs.InPlace.{IsInPlace}
use Rattle.klp_capture.specs.declared.line.PatchedState.{PatchedState}
use Rattle.klp_capture.specs.declared.line.PatchedState.TheVariants.{Undefined, Unpatched, Patched}

-- what the files `enabled` and `transition` of a patch read; None if the patch isn't installed
abbrev pub files_of : State → ℕ → Option (Bool × Bool)
files_of state patch = if is_installed state patch then Some (enabled_value state patch, moves state.moving patch) else None

-- the number that the file `patch_state` of a task reads
abbrev pub number_of : PatchedState → ℤ
number_of Undefined = negsuc 0
number_of Unpatched = pos 0
number_of Patched = pos 1

-- a moment of an honest run
pub record IsMoment (setting : Setting) (w : Watched) : Type 0 where
  pub in_place : IsInPlace setting
  pub start : State
  pub before : List Seen
  pub after : List Seen
  pub honest : IsHonestRun setting start (before ++ after)
  pub then_is : seen_from setting start before ≡ w

-- there is a task in this patch state
pub record HasTask (w : Watched) (state : ℤ) : Type 0 where
  pub number : ℕ
  pub task : Task
  pub there : task_at w.state.tasks number ≡ Some task
  pub state_is : task.state ≡ state

-- one of its frames is in this version
abbrev pub IsInside : (w : Watched) (state : ℤ) → HasTask w state → Version → Type 0
IsInside w state it version = list_any (is_version version) (versions (w.stacks it.number)) ≡ true

-- at this moment no cumulative patch gives the original of the site back
abbrev pub GivesNoneBack : Setting → State → ℕ → Type 0
GivesNoneBack setting state site = list_any (λ (e : Entry). not (is_some e.func)) (entries_of setting state site) ≡ false

-- no honest run shows a task in this patch state inside of a new function of a patch whose files read so
abbrev pub NeverInNew : Option (Bool × Bool) → PatchedState → Type 0
NeverInNew files own =
    (setting : Setting) (w : Watched) (patch function : ℕ) → IsMoment setting w
    → (it : HasTask w (number_of own)) → IsInside w (number_of own) it (New patch function)
    → files_of w.state patch ≡ files → ⊥

-- none shows a task in this patch state inside of an original for which a patch has a function whose files read so,
-- where no patch gives the original back
abbrev pub NeverInOriginal : Option (Bool × Bool) → PatchedState → Type 0
NeverInOriginal files own =
    (setting : Setting) (w : Watched) (patch site : ℕ) → IsMoment setting w
    → (it : HasTask w (number_of own)) → IsInside w (number_of own) it (Original site)
    → patches_site setting site patch ≡ true → GivesNoneBack setting w.state site
    → files_of w.state patch ≡ files → ⊥

-- none shows a task in this patch state while a patch is in transition, or while none is
abbrev pub NeverWhile : Bool → PatchedState → Type 0
NeverWhile is_under_way own =
    (setting : Setting) (w : Watched) → IsMoment setting w → HasTask w (number_of own) → is_moving w.state ≡ is_under_way → ⊥

-- none shows an older patch below a cumulative one whose files read so
abbrev pub NeverAboveOlder : Option (Bool × Bool) → Type 0
NeverAboveOlder files =
    (setting : Setting) (w : Watched) (older patch : ℕ) (oldest between newest : List ℕ) → IsMoment setting w
    → installed_patches w.state ≡ oldest ++ older ∷ (between ++ patch ∷ newest)
    → replaces setting patch ≡ true → files_of w.state patch ≡ files → ⊥

-- whether by this item a task begins, calls or returns
abbrev pub is_by : ℕ → Seen → Bool
is_by task (Happens (NewTask number)) = number == task
is_by task (Happens (Fork parent child)) = child == task
is_by task (Happens event) = false
is_by task (Calls number site) = number == task
is_by task (Returns number) = number == task
