-- What of a manager findings are about.
use Rattle.std.specs.Prelude.{◌≡◌, ℕ, List, [], Result}
use Rattle.klp_types.specs.Setting.{Setting}
use Rattle.klp_journal.specs.Journal.{Group}
use Rattle.klp_model.specs.declared.event.Event.{Event}
use Rattle.klp_model.specs.declared.event.Reply.{Reply}
use Rattle.klp_model.specs.declared.event.Refusal.{Refusal}
use Rattle.klp_model.specs.State.{State}
use Rattle.klp_manager_state.specs.Managed.{setting_of}
use Rattle.klp_core.specs.Journaled.{Journaled}
use Rattle.klp_core.specs.Taking.{AreTaken, answer_in}

-- A manager, but for how often its callbacks ran: its image and patches, its state, and the events that it can take back.
pub record Standing : Type 0 where
  pub setting : Setting
  pub state : State
  pub groups : List Group

abbrev pub standing : Journaled → Standing
standing manager = record { setting = setting_of manager.managed; state = manager.managed.state; groups = manager.groups }

-- a manager that can take no event back
abbrev pub sealed : Setting → State → Standing
sealed setting state = record { setting = setting; state = state; groups = [] }

-- what such a manager answers to an event
abbrev pub answer_at : Standing → Event → Result Reply Refusal
answer_at here event = answer_in here.setting here.state here.groups event

-- From such a manager, events that are done one after another lead to this one. Some may be refused.
pub record LeadsTo (here : Standing) (events : List Event) (there : Journaled) : Type 0 where
  pub start : Journaled
  pub is_here : standing start ≡ here
  pub counts : ℕ × ℕ
  pub taken : AreTaken start there events counts
