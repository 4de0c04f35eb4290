-- The answers to console lines whose event was accepted.
use Rattle.std.specs.Prelude.{ℕ, true, false, List, [], ◌∷◌, ◌++◌, codes, Option, Some, None, Result, Ok, Err}
use Rattle.std.specs.Fmt.{decimal, signed_decimal}
use Rattle.klp_types.specs.declared.version.Version.{Version}
use Rattle.klp_types.specs.declared.version.Version.TheVariants.{Original, New}
use Rattle.klp_model.specs.declared.event.Reply.{Reply}
use Rattle.klp_model.specs.declared.event.Reply.TheVariants.{Done, Started, Reversed, Pending, Completed, PreFailed, Value, Freed, Woken}
use Rattle.klp_model.specs.declared.event.Refusal.{Refusal}
use Rattle.klp_words.specs.Words.{value_text}
use Rattle.klp_modules.specs.Names.{ObjectNames, Named, symbol_at_site}
use Rattle.klp_catalog.specs.Catalog.{Catalog}
use Rattle.klp_console.specs.Names.{patch_name, object_name}
use Rattle.klp_console.specs.Refusals.{refusal_text}

-- the answer to a line that was done and has no more to report
abbrev pub done_text : List ℕ
done_text = codes "ok\n"

-- ` .klp.sym.OBJECT.SYMBOL,POSITION`; no answer has a site that doesn't exist
abbrev pub original_text : List ObjectNames → Option Named → List ℕ
original_text names None = []
original_text names (Some symbol) = codes " .klp.sym." ++ object_name names symbol.object ++ codes "." ++ symbol.name ++ codes "," ++ decimal symbol.position

-- a function that a task was inside of, after a space: an original by its symbol and position from 1, or ` PATCH:INDEX`
abbrev pub frame_text : Catalog → Version → List ℕ
frame_text catalog (Original site) = original_text catalog.names (symbol_at_site catalog.names site)
frame_text catalog (New patch function) = codes " " ++ patch_name catalog patch ++ codes ":" ++ decimal function

-- the functions that a task was inside of, outermost first
abbrev pub frames_text : Catalog → List Version → List ℕ
frames_text catalog [] = []
frames_text catalog (version ∷ versions) = frame_text catalog version ++ frames_text catalog versions

-- the whole line of each reply
abbrev pub reply_text : Catalog → Reply → List ℕ
reply_text catalog Done = done_text
reply_text catalog Started = codes "started\n"
reply_text catalog Reversed = codes "reversed\n"
reply_text catalog (Pending tasks) = codes "pending " ++ decimal tasks ++ codes "\n"
reply_text catalog (Completed true) = codes "completed 1\n"
reply_text catalog (Completed false) = codes "completed 0\n"
reply_text catalog (PreFailed patch object status) =
    codes "prefailed " ++ patch_name catalog patch ++ codes " " ++ object_name catalog.names object ++ codes " " ++ signed_decimal status ++ codes "\n"
reply_text catalog (Value value) = codes "value " ++ value_text value ++ codes "\n"
reply_text catalog (Freed count) = codes "freed " ++ decimal count ++ codes "\n"
reply_text catalog (Woken frames) = codes "woken" ++ frames_text catalog frames ++ codes "\n"

-- the answer to an event
abbrev pub answer_text : Catalog → Result Reply Refusal → List ℕ
answer_text catalog (Ok reply) = reply_text catalog reply
answer_text catalog (Err refusal) = refusal_text refusal
