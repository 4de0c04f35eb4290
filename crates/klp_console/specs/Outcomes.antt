-- The outcome of a line that was answered.
use Rattle.std.specs.Prelude.{◌≡◌, Bool, true, false, is_err, Option, Some, None, Result, Ok}
use Rattle.klp_model.specs.declared.event.Event.{Event}
use Rattle.klp_model.specs.declared.event.Reply.{Reply}
use Rattle.klp_model.specs.declared.event.Refusal.{Refusal}
use Rattle.klp_core.specs.Journaled.{Journaled}
use Rattle.klp_core.specs.Taking.{IsTaken}
use Rattle.klp_console_commands.specs.declared.request.Request.{Request}
use Rattle.klp_console_commands.specs.declared.request.Request.TheVariants.{Rewind}
use Rattle.klp_console_commands.specs.declared.fault.LineFault.{LineFault}
use Rattle.klp_console.specs.Asked.{event_asked}
use Rattle.klp_console.specs.declared.outcome.LineOutcome.{LineOutcome}
use Rattle.klp_console.specs.declared.outcome.LineOutcome.TheVariants.{Answered, Refused, Rewound, Done}

-- whether the line wasn't done, by which it is counted
abbrev pub is_refusal : LineOutcome → Bool
is_refusal (Answered event reply) = is_err reply
is_refusal Refused = true
is_refusal (Rewound mark) = false
is_refusal Done = false

-- the outcome of a line that asks for no event
abbrev pub other_outcome : Option (Result Request LineFault) → Bool → LineOutcome
other_outcome request true = Refused
other_outcome (Some (Ok (Rewind mark))) false = Rewound mark
other_outcome request false = Done

-- the manager took the event, and the outcome has its reply or its refusal
abbrev pub IsEventOutcome : Journaled → Journaled → Event → LineOutcome → Type 0
IsEventOutcome before after event outcome = (reply : Result Reply Refusal) × IsTaken before after event reply × (outcome ≡ Answered event reply)

-- the outcome of a request, by the event that it asks for, if it asks for one
abbrev pub IsOutcomeOf : Journaled → Journaled → Option (Result Request LineFault) → Option Event → LineOutcome → Type 0
IsOutcomeOf before after request (Some event) outcome = IsEventOutcome before after event outcome
IsOutcomeOf before after request None outcome = outcome ≡ other_outcome request (is_refusal outcome)

-- The outcome of a request: the event with its reply or its refusal; or how many events are left after an undo; or
-- something that no state shows.
abbrev pub IsOutcome : Journaled → Journaled → Option (Result Request LineFault) → LineOutcome → Type 0
IsOutcome before after request outcome = IsOutcomeOf before after request (event_asked request) outcome
