-- Runs of events in order. A refused event leaves the state.
use Rattle.std.specs.Prelude.{List, [], ◌∷◌, ◌++◌, Result, Ok, Err, if◌then◌else◌}
use Rattle.klp_model.specs.declared.event.Event.{Event}
use Rattle.klp_model.specs.declared.event.Reply.{Reply}
use Rattle.klp_model.specs.declared.event.Refusal.{Refusal}
use Rattle.klp_types.specs.Setting.{Setting}
use Rattle.klp_model.specs.State.{State}
use Rattle.klp_types.specs.Callbacks.{Call}
use Rattle.klp_model.specs.Refusals.{accepts}
use Rattle.klp_model.specs.Step.{step, callbacks_of}

-- the answer of a step: its reply, or the refusal
abbrev pub answer_of : Result (Reply × State) Refusal → Result Reply Refusal
answer_of (Ok outcome) = Ok outcome.0
answer_of (Err refusal) = Err refusal

-- the state that a step leaves
abbrev pub state_after : State → Result (Reply × State) Refusal → State
state_after state (Ok outcome) = outcome.1
state_after state (Err refusal) = state

-- the answer to one event
abbrev pub answer : Setting → State → Event → Result Reply Refusal
answer setting state event = answer_of (step setting state event)

abbrev pub next : Setting → State → Event → State
next setting state event = state_after state (step setting state event)

-- the state after all events
abbrev pub run : Setting → State → List Event → State
run setting state [] = state
run setting state (event ∷ events) = run setting (next setting state event) events

-- the answer to each event
abbrev pub answers : Setting → State → List Event → List (Result Reply Refusal)
answers setting state [] = []
answers setting state (event ∷ events) = answer setting state event ∷ answers setting (next setting state event) events

-- the callbacks that all events run, in order
abbrev pub callbacks_of_run : Setting → State → List Event → List Call
callbacks_of_run setting state [] = []
callbacks_of_run setting state (event ∷ events) = callbacks_of setting state event ++ callbacks_of_run setting (next setting state event) events

-- the events that aren't refused, in order
abbrev pub accepted_events : Setting → State → List Event → List Event
accepted_events setting state [] = []
accepted_events setting state (event ∷ events) =
    if accepts setting state event then event ∷ accepted_events setting (next setting state event) events else accepted_events setting (next setting state event) events
