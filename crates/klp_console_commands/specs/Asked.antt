-- What a line asks for, in two parts: a few bytes, and the event that they may mean.
use Rattle.std.specs.Prelude.{Option, Some, None, Result, Ok, Err}
use Rattle.klp_model.specs.declared.event.Event.{Event}
use Rattle.klp_console_commands.specs.declared.fault.LineFault.{LineFault}
use Rattle.klp_console_commands.specs.declared.request.Asked.{Asked}
use Rattle.klp_console_commands.specs.declared.request.Asked.TheVariants as asked
use Rattle.klp_console_commands.specs.declared.request.Query.{Query}
use Rattle.klp_console_commands.specs.declared.request.Request.{Request}
use Rattle.klp_console_commands.specs.declared.request.Request.TheVariants.{Take, ForceNothing, Rewind, Seal, Ask}

-- the request, if this event is beside it
abbrev pub request_with : Asked → Event → Request
request_with asked.Take event = Take event
request_with (asked.ForceNothing patch) event = ForceNothing patch
request_with (asked.Rewind mark) event = Rewind mark
request_with asked.Seal event = Seal
request_with (asked.Ask look) event = Ask look

-- the request of a line, or its fault
abbrev pub line_with : Result Asked LineFault → Event → Result Request LineFault
line_with (Ok asked) event = Ok (request_with asked event)
line_with (Err fault) event = Err fault

-- what a line asks for, which may have no words
abbrev pub asked_with : Option (Result Asked LineFault) → Event → Option (Result Request LineFault)
asked_with (Some line) event = Some (line_with line event)
asked_with None event = None

-- the request to show something, or the fault
abbrev pub shown : Result Query LineFault → Result Request LineFault
shown (Ok look) = Ok (Ask look)
shown (Err fault) = Err fault
