-- What a catalog's text means: a plan, or the first faulty line and its fault.
use Rattle.std.specs.Prelude.{◌≡◌, ℕ, suc, ◌<◌, ◌≤◌, if◌then◌else◌, List, [], ◌∷◌, length, Option, Some, None, Result, Ok, Err}
use Rattle.std.specs.Str.Lines.{lines}
use Rattle.klp_catalog_text.specs.declared.fault.TextFaultKind.{TextFaultKind}
use Rattle.klp_catalog_text.specs.declared.fault.TextFaultKind.TheVariants.{Missing, NoMemory}
use Rattle.klp_catalog_text.specs.declared.fault.TextFault.{TextFault}
use Rattle.klp_catalog_text.specs.Plan.{Plan}
use Rattle.klp_words.specs.Steps.{◌>>=◌}
use Rattle.klp_catalog_text.specs.Lines.{words_of, is_comment, line_of}
use Rattle.klp_catalog_text.specs.PlanParts.{has_some}
use Rattle.klp_catalog_text.specs.Draft.{Draft, empty_draft, open_object, placed}

-- the draft after a line with these words; a line without words adds nothing
abbrev pub with_words : Draft → List ℕ → List (List ℕ) → Result Draft TextFaultKind
with_words draft text [] = Ok draft
with_words draft text (first ∷ words) = line_of (open_object draft) text first words >>= placed draft

-- the draft after a line; a comment adds nothing
abbrev pub with_line : Draft → List ℕ → Result Draft TextFaultKind
with_line draft text = if is_comment text then Ok draft else with_words draft text (words_of text)

abbrev pub at_line : {A : Type 0} → ℕ → Result A TextFaultKind → Result A TextFault
at_line number (Ok value) = Ok value
at_line number (Err kind) = Err (record { line = number; kind = kind })

-- the draft after these lines, in order; the first has this number
abbrev pub with_lines : ℕ → List (List ℕ) → Draft → Result Draft TextFault
with_lines number [] draft = Ok draft
with_lines number (text ∷ more) draft = at_line number (with_line draft text) >>= with_lines (suc number) more

-- the plan of a whole text, which must have a handler and an object
abbrev pub finished_with : Option ℕ → Draft → Result Plan TextFaultKind
finished_with None draft = Err Missing
finished_with (Some handler) draft =
    if has_some draft.objects then Ok (record { handler = handler; objects = draft.objects; patches = draft.patches }) else Err Missing

abbrev pub finished : Draft → Result Plan TextFault
finished draft = at_line 0 (finished_with draft.handler draft)

-- the plan of a text, or its first fault; lines count from 1
abbrev pub plan_of : List ℕ → Result Plan TextFault
plan_of text = with_lines 1 (lines text) empty_draft >>= finished

-- no line before this one is faulty
abbrev pub NoFaultBefore : ℕ → Result Plan TextFault → Type 0
NoFaultBefore line (Ok plan) = Unit {0}
NoFaultBefore line (Err fault) = 0 < fault.line → line ≤ fault.line

-- the line is one of the text's, and no line before it is faulty
pub record IsReached (text : List ℕ) (line : ℕ) : Type 0 where
  pub from_one : 0 < line
  pub in_text : line ≤ length (lines text)
  pub first : NoFaultBefore line (plan_of text)

-- the fault is the one of the definition; but NoMemory is allowed at any line that no faulty line comes before
abbrev pub IsFaultOf : List ℕ → ℕ → TextFaultKind → Type 0
IsFaultOf text line NoMemory = IsReached text line
IsFaultOf text line kind = plan_of text ≡ Err (record { line = line; kind = kind })
