-- What became of a line, and its answer.
use Rattle.std.proofs.Common.{◌≡◌, Bool, true, false, Some, None, Ok, Err, Option, Result, refl, ap}
use Rattle.std.proofs.lemmas.Option.{same_Some, none-some}
use Rattle.klp_model.specs.declared.event.Event.{Event}
use Rattle.klp_console_commands.specs.declared.request.Request.{Request}
use Rattle.klp_console_commands.specs.declared.request.Request.TheVariants.{Take, ForceNothing, Rewind, Seal, Ask}
use Rattle.klp_console_commands.specs.declared.fault.LineFault.{LineFault}
use Rattle.klp_console.specs.Asked.{event_asked}
use Rattle.klp_console_commands.specs.declared.request.Asked.{Asked}
use Rattle.klp_console_commands.specs.declared.request.Asked.TheVariants as asked
use Rattle.klp_console_commands.specs.Asked.{asked_with}
use Rattle.klp_core.specs.Journaled.{Journaled}
use Rattle.klp_console.specs.declared.outcome.LineOutcome.{LineOutcome}
use Rattle.klp_console.specs.Outcomes.{is_refusal, other_outcome, IsOutcome}

pub other_refused : (request : Option (Result Request LineFault)) (refused : Bool) → is_refusal (other_outcome request refused) ≡ refused
other_refused None true = refl
other_refused None false = refl
other_refused (Some (Err fault)) true = refl
other_refused (Some (Err fault)) false = refl
other_refused (Some (Ok (Take event))) true = refl
other_refused (Some (Ok (Take event))) false = refl
other_refused (Some (Ok (ForceNothing patch))) true = refl
other_refused (Some (Ok (ForceNothing patch))) false = refl
other_refused (Some (Ok (Rewind mark))) true = refl
other_refused (Some (Ok (Rewind mark))) false = refl
other_refused (Some (Ok Seal)) true = refl
other_refused (Some (Ok Seal)) false = refl
other_refused (Some (Ok (Ask query))) true = refl
other_refused (Some (Ok (Ask query))) false = refl

pub asks_event : (request : Option (Result Request LineFault)) (event : Event) → event_asked request ≡ Some event → request ≡ Some (Ok (Take event))
asks_event None event e = absurd (none-some event e)
asks_event (Some (Err fault)) event e = absurd (none-some event e)
asks_event (Some (Ok (Take own))) event e = ap (λ x. Some (Ok (Take x))) (same_Some own event e)
asks_event (Some (Ok (ForceNothing patch))) event e = absurd (none-some event e)
asks_event (Some (Ok (Rewind mark))) event e = absurd (none-some event e)
asks_event (Some (Ok Seal)) event e = absurd (none-some event e)
asks_event (Some (Ok (Ask query))) event e = absurd (none-some event e)

-- what asks for no event
pub asks_none : (line : Option (Result Asked LineFault)) (event : Event) → (line ≡ Some (Ok asked.Take) → ⊥) → event_asked (asked_with line event) ≡ None
asks_none None event other = refl
asks_none (Some (Err fault)) event other = refl
asks_none (Some (Ok asked.Take)) event other = absurd (other refl)
asks_none (Some (Ok (asked.ForceNothing patch))) event other = refl
asks_none (Some (Ok (asked.Rewind mark))) event other = refl
asks_none (Some (Ok asked.Seal)) event other = refl
asks_none (Some (Ok (asked.Ask query))) event other = refl

-- came to this
pub none_outcome : (before after : Journaled) (request : Option (Result Request LineFault)) (outcome : LineOutcome) → event_asked request ≡ None → outcome ≡ other_outcome request (is_refusal outcome) → IsOutcome before after request outcome
none_outcome before after request outcome none is = rw none is
