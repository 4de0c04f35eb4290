-- The answer to one line of the console, and the manager after it.
use Rattle.std.specs.Prelude.{◌≡◌, ℕ, ◌<◌, ◌≤◌, Bool, true, false, List, [], length, ◌⊎◌, is_err, Option, Some, None, Result, Ok, Err}
use Rattle.klp_model.specs.declared.event.Event.{Event}
use Rattle.klp_model.specs.declared.event.Reply.{Reply}
use Rattle.klp_model.specs.declared.event.Refusal.{Refusal}
use Rattle.klp_modules.specs.Names.{names_of}
use Rattle.klp_catalog_text.specs.Draft.{patch_names_of}
use Rattle.klp_catalog.specs.Catalog.{Catalog}
use Rattle.klp_console_commands.specs.declared.request.Request.{Request}
use Rattle.klp_console_commands.specs.declared.request.Request.TheVariants.{Take, ForceNothing, Rewind, Seal, Ask}
use Rattle.klp_console_commands.specs.declared.fault.LineFault.{LineFault}
use Rattle.klp_console_commands.specs.Names.{NameResolver}
use Rattle.klp_console_commands.specs.Lines.{request_of}
use Rattle.klp_console.specs.Refusals.{fault_text, bad_mark_text}
use Rattle.klp_console.specs.Replies.{done_text, answer_text}
use Rattle.klp_console.specs.Queries.{query_text, shown_text, force_nothing}
use Rattle.klp_core.specs.Journaled.{Journaled, IsWellFormed}
use Rattle.klp_core.specs.Taking.{IsTaken}
use Rattle.klp_core.specs.Rewinding.{IsRewound}

-- the text, and whether it says why the line wasn't done
pub record Answer : Type 0 where
  pub text : List ℕ
  pub is_refused : Bool

-- the answer to a line without words: no text
abbrev pub nothing : Answer
nothing = record { text = []; is_refused = false }

-- the answer to a line that was done and shows nothing more
abbrev pub done : Answer
done = record { text = done_text; is_refused = false }

-- the answer to a line that wasn't done, with this text
abbrev pub refused_with : List ℕ → Answer
refused_with text = record { text = text; is_refused = true }

-- the answer to a query: what it shows, or why it is refused
abbrev pub seen : Result (List ℕ) Refusal → Answer
seen query = record { text = shown_text query; is_refused = is_err query }

-- the answer to an event
abbrev pub replied : Catalog → Result Reply Refusal → Answer
replied catalog reply = record { text = answer_text catalog reply; is_refused = is_err reply }

-- the names that a line may use
abbrev pub names_in : Journaled → NameResolver
names_in manager = record { patches = patch_names_of manager.managed.catalog.patches; objects = names_of manager.managed.image.objects }

-- the manager after `seal`: its state is its base, and nothing can be undone
abbrev pub sealed : Journaled → Journaled
sealed manager = record { managed = manager.managed; base = manager.managed.state; groups = [] }

-- the manager takes the event, and the answer is its reply or its refusal
pub record IsTakenAs (before after : Journaled) (event : Event) (answer : Answer) : Type 0 where
  pub reply : Result Reply Refusal
  pub taken : IsTaken before after event reply
  pub sent : answer ≡ replied after.managed.catalog reply

-- the events behind the mark are undone, if there are that many
abbrev pub IsRewoundAs : Journaled → Journaled → ℕ → Answer → Type 0
IsRewoundAs before after mark answer =
    ((mark ≤ length before.groups) × IsRewound before after mark × (answer ≡ done)) ⊎ ((length before.groups < mark) × (after ≡ before) × (answer ≡ refused_with bad_mark_text))

-- the manager does what is asked for, with this answer
abbrev pub IsDone : Journaled → Journaled → Request → Answer → Type 0
IsDone before after (Take event) answer = IsTakenAs before after event answer
IsDone before after (ForceNothing patch) answer = (after ≡ before) × (answer ≡ seen (force_nothing before patch))
IsDone before after (Rewind mark) answer = IsRewoundAs before after mark answer
IsDone before after Seal answer = (after ≡ sealed before) × (answer ≡ done)
IsDone before after (Ask query) answer = (after ≡ before) × (answer ≡ seen (query_text before query))

-- a line without words, and a line at fault, change nothing
abbrev pub IsDoneIf : Journaled → Journaled → Option (Result Request LineFault) → Answer → Type 0
IsDoneIf before after None answer = (after ≡ before) × (answer ≡ nothing)
IsDoneIf before after (Some (Err fault)) answer = (after ≡ before) × (answer ≡ refused_with (fault_text fault))
IsDoneIf before after (Some (Ok request)) answer = IsDone before after request answer

-- A line is answered: this is its answer, and `after` is the manager that it leaves. The groups of its journal lead to
-- its state.
pub record IsAnswered (before after : Journaled) (line : List ℕ) (answer : Answer) : Type 0 where
  pub done : IsDoneIf before after (request_of (names_in before) line) answer
  pub well_formed : IsWellFormed after
