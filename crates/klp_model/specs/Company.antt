-- A fair company of a patch: events among which the patch may be enabled, reversed and disabled without leaving a
-- trace.
use Rattle.std.specs.Prelude.{◌≡◌, ℕ, zero, suc, pos, Bool, true, false, not, ◌&&◌, List, [], ◌∷◌, Option, Some, None}
use Rattle.std.specs.List.{list_any, before_first}
use Rattle.klp_types.specs.declared.shadow.ShadowKey.{ShadowKey}
use Rattle.klp_types.specs.declared.callback.Which.{Which}
use Rattle.klp_types.specs.declared.callback.Which.TheVariants.{Pre, Post, PreUn, PostUn}
use Rattle.klp_model.specs.declared.event.Event.{Event}
use Rattle.klp_model.specs.declared.event.Event.TheVariants.{Enable, SetEnabled, Force, Poll, Coming, Going}
use Rattle.klp_types.specs.declared.version.Transition.{Transition}
use Rattle.klp_types.specs.Setting.{Setting, PatchObject, replaces}
use Rattle.klp_types.specs.World.{World, installed_before}
use Rattle.klp_types.specs.Script.{Script, effect, touches, Undoes}
use Rattle.klp_model.specs.State.{State, is_installed}
use Rattle.klp_types.specs.Entries.{is_empty}
use Rattle.klp_model.specs.Blocked.{pending}
use Rattle.klp_types.specs.Callbacks.{script_for, refuses}
use Rattle.klp_model.specs.Callbacks.{loaded_objects}
use Rattle.klp_model.specs.ShadowStep.{concerns}
use Rattle.klp_model.specs.Refusals.{accepts}
use Rattle.klp_model.specs.Run.{next}

-- the objects whose callbacks make changes: the loaded ones before the first whose pre-patch refuses
abbrev pub taking_part : Setting → State → ℕ → List (ℕ × PatchObject)
taking_part setting state patch = before_first refuses (loaded_objects setting state patch)

-- the script of a callback; a missing callback has the empty script
abbrev pub script_or_empty : Option Script → Script
script_or_empty None = record { edits = []; status = pos 0 }
script_or_empty (Some script) = script

abbrev pub script_of : Which → ℕ × PatchObject → Script
script_of which object = script_or_empty (script_for which object.1.callbacks)

abbrev pub kinds : List Which
kinds = Pre ∷ Post ∷ PreUn ∷ PostUn ∷ []

-- whether a script of the object touches the variable
abbrev pub object_touches : ShadowKey → ℕ × PatchObject → Bool
object_touches key object = list_any (λ which. touches (script_of which object) key) kinds

abbrev pub one_touches : List (ℕ × PatchObject) → ShadowKey → Bool
one_touches objects key = list_any (object_touches key) objects

-- the variables that the patch's callbacks touch
abbrev pub company_keys : Setting → State → ℕ → ShadowKey → Bool
company_keys setting state patch key = one_touches (taking_part setting state patch) key

-- post-unpatch undoes pre-patch in this world, and pre-unpatch undoes post-patch in the world that pre-patch leaves
pub record UndoesItself (patch : ℕ) (world : World) (object : ℕ × PatchObject) : Type 0 where
  pub pre : Undoes patch (script_of PostUn object) (script_of Pre object) world
  pub post : Undoes patch (script_of PreUn object) (script_of Post object) (effect patch world (script_of Pre object))

abbrev pub EachUndoes : ℕ → World → List (ℕ × PatchObject) → Type 0
EachUndoes patch world [] = Unit {0}
EachUndoes patch world (object ∷ objects) = UndoesItself patch world object × EachUndoes patch world objects

-- no two of the objects touch the same variable
abbrev pub AreApart : List (ℕ × PatchObject) → Type 0
AreApart [] = Unit {0}
AreApart (object ∷ objects) = ((key : ShadowKey) → object_touches key object ≡ true → one_touches objects key ≡ false) × AreApart objects

abbrev pub has_older : ℕ → World → Bool
has_older patch world = not (is_empty (installed_before patch world.installed))

abbrev pub is_none_left : ℕ → Bool
is_none_left zero = true
is_none_left (suc n) = false

-- whether the transition, once complete, replaces an older patch
abbrev pub replaces_older : Setting → State → Option Transition → Bool
replaces_older setting state None = false
replaces_older setting state (Some move) =
    is_none_left (pending setting state move) && move.target && replaces setting move.patch && has_older move.patch state.world

-- whether the event completes a replacement by which an older patch leaves
abbrev pub drops_older : Setting → State → Event → Bool
drops_older setting state Poll = replaces_older setting state state.moving
drops_older setting state other = false

-- the patch is enabled, reversed, disabled or polled, a task does something, or a shadow variable changes that
-- isn't one of these keys
abbrev pub IsOfCompany : ℕ → (ShadowKey → Bool) → Event → Type 0
IsOfCompany patch keys (Enable other) = other ≡ patch
IsOfCompany patch keys (SetEnabled other value) = other ≡ patch
IsOfCompany patch keys (Force other) = ⊥
IsOfCompany patch keys (Coming object) = ⊥
IsOfCompany patch keys (Going object) = ⊥
IsOfCompany patch keys other = (key : ShadowKey) → concerns other key ≡ true → keys key ≡ false

pub record IsFairEvent (setting : Setting) (patch : ℕ) (keys : ShadowKey → Bool) (state : State) (event : Event) : Type 0 where
  pub accepted : accepts setting state event ≡ true
  pub of_company : IsOfCompany patch keys event
  pub none_dropped : drops_older setting state event ≡ false

abbrev pub AreFair : Setting → ℕ → (ShadowKey → Bool) → State → List Event → Type 0
AreFair setting patch keys state [] = Unit {0}
AreFair setting patch keys state (event ∷ events) =
    IsFairEvent setting patch keys state event × AreFair setting patch keys (next setting state event) events

-- the patch isn't installed, there is no transition, its callbacks undo each other, and no two of its objects touch
-- the same variable. The start needn't be an allowed state
pub record IsFairStart (setting : Setting) (patch : ℕ) (start : State) : Type 0 where
  pub still : start.moving ≡ None
  pub away : is_installed start patch ≡ false
  pub undone : EachUndoes patch start.world (taking_part setting start patch)
  pub apart : AreApart (taking_part setting start patch)

pub record IsFairCompany (setting : Setting) (patch : ℕ) (start : State) (events : List Event) : Type 0 where
  pub fair_start : IsFairStart setting patch start
  pub fair_events : AreFair setting patch (company_keys setting start patch) start events
