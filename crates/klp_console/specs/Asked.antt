-- What a line or a word asks for, whatever the manager's answer would be.
use Rattle.std.specs.Prelude.{ℕ, List, Option, Some, None, Result, Ok}
use Rattle.std.specs.Result.{result_ok}
use Rattle.klp_model.specs.declared.event.Event.{Event}
use Rattle.klp_words.specs.Words.{Spelling, spelling_of}
use Rattle.klp_core.specs.Journaled.{Journaled}
use Rattle.klp_console_commands.specs.declared.request.Request.{Request}
use Rattle.klp_console_commands.specs.declared.request.Request.TheVariants.{Take}
use Rattle.klp_console_commands.specs.declared.fault.LineFault.{LineFault}
use Rattle.klp_console_commands.specs.Lines.{request_of}
use Rattle.klp_console_commands.specs.Names as names
use Rattle.klp_console.specs.Answered.{names_in}

-- the event of a request to take one
abbrev pub event_asked : Option (Result Request LineFault) → Option Event
event_asked (Some (Ok (Take event))) = Some event
event_asked request = None

-- the event that a line asks for; none if it has no words, is at fault, or asks for something else
abbrev pub event_of : Journaled → List ℕ → Option Event
event_of manager line = event_asked (request_of (names_in manager) line)

-- the site of a spelled symbol, if there is one
abbrev pub site_spelled : Journaled → Option Spelling → Option ℕ
site_spelled manager None = None
site_spelled manager (Some spelling) = result_ok (names.site_of (names_in manager) spelling)

-- the site of the symbol that a word spells, its object loaded or not; none if it spells none or there is no such
-- symbol
abbrev pub site_of : Journaled → List ℕ → Option ℕ
site_of manager symbol = site_spelled manager (spelling_of symbol)
