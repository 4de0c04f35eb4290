-- What happened since a state: events with their replies, each accepted in its turn.
use Rattle.std.specs.Prelude.{◌≡◌, List, [], ◌∷◌, ◌++◌, map, Result, Ok, Err}
use Rattle.klp_model.specs.declared.event.Event.{Event}
use Rattle.klp_model.specs.declared.event.Reply.{Reply}
use Rattle.klp_model.specs.declared.event.Refusal.{Refusal}
use Rattle.klp_types.specs.Setting.{Setting}
use Rattle.klp_model.specs.State.{State}
use Rattle.klp_model.specs.Run.{answer, next, run}

-- events with the replies that they got
abbrev pub History : Type 0
History = List (Event × Reply)

-- from the base on, each event was accepted, with this reply
abbrev pub IsLegal : Setting → State → History → Type 0
IsLegal setting base [] = Unit {0}
IsLegal setting base (first ∷ history) = (answer setting base first.0 ≡ Ok first.1) × IsLegal setting (next setting base first.0) history

-- the state to which a history leads
abbrev pub state_after_history : Setting → State → History → State
state_after_history setting base history = run setting base (map (λ (p : Event × Reply). p.0) history)

-- what an event adds to the history: nothing if it is refused
abbrev pub entry_of : Event → Result Reply Refusal → History
entry_of event (Ok reply) = (event, reply) ∷ []
entry_of event (Err refusal) = []

-- what a list of events adds to the history
abbrev pub history_of : Setting → State → List Event → History
history_of setting state [] = []
history_of setting state (event ∷ events) = entry_of event (answer setting state event) ++ history_of setting (next setting state event) events
