-- What a pass knows and finds.
use Rattle.std.specs.Prelude.{◌≡◌, ◌⊎◌, ℕ, [], ◌∷◌, Result, Err}
use mathlib.Core.List.{IsPrefix}
use Rattle.klp_types.specs.Setting.{Setting}
use Rattle.klp_types.specs.declared.version.Target.{Target}
use Rattle.klp_model.specs.State.{State}
use Rattle.klp_model.specs.Legal.{History, IsLegal, state_after_history}
use Rattle.klp_live.specs.declared.published.Published.{Published}
use Rattle.klp_live.specs.declared.published.View.{View}
use Rattle.klp_live.specs.declared.target.EnterFault.{EnterFault}
use Rattle.klp_live.specs.declared.target.EnterFault.TheVariants.{NoTable}
use Rattle.klp_live.specs.Found.{entered}
use Rattle.klp_live.specs.Seats.{Knows}
use Rattle.klp_live.specs.Shown.{IsTable, EachBegins, known_of}

-- a task with what its thread knows
pub record Passing : Type 0 where
  pub task : ℕ
  pub knows : Knows

-- what was read is a table of this start, and the reader knows its history then
pub record IsRead (setting : Setting) (base : State) (v : View) (x y : Published) (w : View) : Type 0 where
  pub table : IsTable setting base y
  pub before : EachBegins y v.known
  pub after : w ≡ record { known = known_of y ∷ [] }

-- the answer is the model's, in the state that a legal history leads to
pub record IsAnswered (setting : Setting) (base : State) (task site : ℕ) (list : History) (result : Result Target EnterFault) : Type 0 where
  pub legal : IsLegal setting base list
  pub answers : result ≡ entered setting (state_after_history setting base list) task site

-- the answer is by the history that the seat knows afterwards, which begins with what it knew before
pub record IsSeenIn (setting : Setting) (base : State) (task site : ℕ) (before after : Knows) (result : Result Target EnterFault) : Type 0 where
  pub answered : IsAnswered setting base task site after.list result
  pub begins : IsPrefix before.list after.list
  pub accepted : after.accepted ≡ before.accepted

-- what a call of a pass finds: no table, and nothing new is known, or an answer by the history that is known then
abbrev pub IsEntered : Setting → State → ℕ → ℕ → Knows → Knows → Result Target EnterFault → Type 0
IsEntered setting base task site before after result = ((result ≡ Err NoTable) × (after ≡ before)) ⊎ IsSeenIn setting base task site before after result
