-- Consistency: each frame of a task is the version that the task would run now.
use Rattle.std.specs.Prelude.{◌≡◌, ℕ, pos, Bool, true, false, ◌==◌, ◌&&◌, List, [], ◌∷◌, Option, Some, None, option_map, option_and_then, slice_get, if◌then◌else◌}
use Rattle.std.specs.List.{list_any}
use Rattle.klp_types.specs.declared.version.Version.{Version}
use Rattle.klp_types.specs.declared.version.Version.TheVariants.{Original, New}
use Rattle.klp_types.specs.declared.version.Target.{Target}
use Rattle.klp_types.specs.declared.version.Entry.{Entry}
use Rattle.klp_types.specs.declared.version.Transition.{Transition}
use Rattle.klp_types.specs.Setting.{Setting, Function, functions_of}
use Rattle.klp_types.specs.declared.task.Task.{Task}
use Rattle.klp_model.specs.Task.{task_at}
use Rattle.klp_model.specs.State.{State}
use Rattle.klp_model.specs.Entries.{entries_of}
use Rattle.klp_types.specs.Pick.{newest_version}
use Rattle.klp_model.specs.Blocked.{is_version}
use Rattle.klp_model.specs.Pick.{pick}
use Rattle.klp_model.specs.Observed.{Frame, Watched}

-- the version that a task would run at a site now
abbrev pub version_now : Setting → State → ℕ → ℕ → Option Version
version_now setting state task site = option_map (λ (t : Target). t.version) (pick setting state task site)

-- each frame is the version that is run at its site now
abbrev pub AreCurrent : (ℕ → Option Version) → List Frame → Type 0
AreCurrent now [] = Unit {0}
AreCurrent now (frame ∷ frames) = (now frame.site ≡ Some frame.version) × AreCurrent now frames

abbrev pub AllCurrent : Setting → Watched → Type 0
AllCurrent setting w = (task : ℕ) → AreCurrent (version_now setting w.state task) (w.stacks task)

abbrev pub is_number : Option ℕ → ℕ → Bool
is_number None function = false
is_number (Some own) function = own == function

-- if this is a new function, it has an entry at the site
abbrev pub HasEntryIn : List Entry → Version → Type 0
HasEntryIn entries (Original site) = Unit {0}
HasEntryIn entries (New patch function) = list_any (λ (e : Entry). e.patch == patch && is_number e.func function) entries ≡ true

abbrev pub AllHaveEntries : Setting → State → List Frame → Type 0
AllHaveEntries setting state [] = Unit {0}
AllHaveEntries setting state (frame ∷ frames) = HasEntryIn (entries_of setting state frame.site) frame.version × AllHaveEntries setting state frames

abbrev pub NoneLeft : Setting → Watched → Type 0
NoneLeft setting w = (task : ℕ) → AllHaveEntries setting w.state (w.stacks task)

abbrev pub is_of_patch : ℕ → Version → Bool
is_of_patch patch (Original site) = false
is_of_patch patch (New own function) = own == patch

abbrev pub NoneOfPatch : ℕ → List Frame → Type 0
NoneOfPatch patch [] = Unit {0}
NoneOfPatch patch (frame ∷ frames) = (is_of_patch patch frame.version ≡ false) × NoneOfPatch patch frames

-- the version just below the patch's entry, if it has one
abbrev pub below : ℕ → ℕ → List Entry → List Version
below site patch [] = []
below site patch (entry ∷ older) = if entry.patch == patch then newest_version site older ∷ [] else below site patch older

-- no frame is a version below an entry of the patch, at any site
abbrev pub NoneBelow : Setting → State → ℕ → List Frame → Type 0
NoneBelow setting state patch [] = Unit {0}
NoneBelow setting state patch (frame ∷ frames) =
    ((site : ℕ) → list_any (is_version frame.version) (below site patch (entries_of setting state site)) ≡ false) × NoneBelow setting state patch frames

-- which frames a task doesn't have during a transition
abbrev pub IsUnmixed : Setting → State → Task → List Frame → Type 0
IsUnmixed setting state task frames =
    (move : Transition) → state.moving ≡ Some move
    → (task.state ≡ pos 0 → NoneOfPatch move.patch frames) × (task.state ≡ pos 1 → NoneBelow setting state move.patch frames)

abbrev pub NoneMixed : Setting → Watched → Type 0
NoneMixed setting w = (number : ℕ) (task : Task) → task_at w.state.tasks number ≡ Some task → IsUnmixed setting w.state task (w.stacks number)

-- the site of a function with this number
abbrev pub site_at : List Function → ℕ → Option ℕ
site_at functions number = option_and_then (λ (f : Function). f.site) (slice_get functions number)

abbrev pub site_of : Setting → Version → Option ℕ
site_of setting (Original site) = Some site
site_of setting (New patch function) = site_at (functions_of setting patch) function

abbrev pub AreNamed : Setting → List Frame → Type 0
AreNamed setting [] = Unit {0}
AreNamed setting (frame ∷ frames) = (site_of setting frame.version ≡ Some frame.site) × AreNamed setting frames

abbrev pub AllNamed : Setting → Watched → Type 0
AllNamed setting w = (task : ℕ) → AreNamed setting (w.stacks task)
