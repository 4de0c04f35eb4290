-- What a text of names means: a line each, `task N NAME` or `line N SECONDS`.
use Rattle.std.specs.Prelude.{◌≡◌, ℕ, suc, ◌-◌, ◌^◌, ◌==◌, ◌&&◌, Bool, not, nat_lt, nat_le, if◌then◌else◌, List, [], ◌∷◌, ◌++◌, length, slice_get, codes, bytes_eq, Option, Some, None, is_some, option_and_then, Result, Ok, Err}
use Rattle.std.specs.List.{list_any, before_first, after_first}
use Rattle.std.specs.Char.{is_ascii_control}
use Rattle.std.specs.Str.Lines.{lines}
use Rattle.klp_types.specs.declared.limits.TheConstants.{MAX_TASKS}
use Rattle.klp_words.specs.Words.{decimal_of}
use Rattle.klp_words.specs.Seconds.{seconds_of}
use Rattle.klp_words.specs.Steps.{◌>>=◌}
use Rattle.klp_names.specs.declared.fault.NamesFault.{NamesFault}
use Rattle.klp_names.specs.declared.fault.NamesFaultKind.{NamesFaultKind}
use Rattle.klp_names.specs.declared.fault.NamesFaultKind.TheVariants.{UnknownWord, BadTask, BadName, BadLine, BadTime, NamedTwice, LineFalls, TimeFalls, NoMemory}
use Rattle.klp_names.specs.declared.text.TheConstants.{MAX_TASK_NAME}
use Rattle.klp_names.specs.declared.timed.Timed.{Timed}
use Rattle.klp_names.specs.Names.{Names, nothing_known, name_of}

abbrev pub is_blank : ℕ → Bool
is_blank b = b == 32

-- 1 to 64 bytes, none of them a control character
abbrev pub is_task_name : List ℕ → Bool
is_task_name word = not (length word == 0) && nat_le (length word) MAX_TASK_NAME && not (list_any is_ascii_control word)

abbrev pub task_of : List ℕ → Option ℕ
task_of word = option_and_then (λ n. if nat_lt n MAX_TASKS then Some n else None) (decimal_of (2 ^ 64) word)

-- lines count from 1
abbrev pub line_of : List ℕ → Option ℕ
line_of word = option_and_then (λ n. if nat_lt 0 n then Some n else None) (decimal_of (2 ^ 64) word)

-- one more name, of a task that has none
abbrev pub with_name : Names → ℕ → List ℕ → Result Names NamesFaultKind
with_name names task name =
    if is_some (name_of names.named task) then Err NamedTwice
    else Ok (record names { named = names.named ++ record { task = task; name = name } ∷ [] })

-- a time is that of a later line than the last one, and no earlier
abbrev pub follows : Timed → Option Timed → Option NamesFaultKind
follows timed None = None
follows timed (Some last) = if nat_le timed.line last.line then Some LineFalls else if nat_lt timed.at last.at then Some TimeFalls else None

abbrev pub unless_fault : Names → Option NamesFaultKind → Result Names NamesFaultKind
unless_fault names None = Ok names
unless_fault names (Some kind) = Err kind

-- one more time
abbrev pub with_time : Names → ℕ → ℕ → Result Names NamesFaultKind
with_time names line at =
    let timed : Timed = record { line = line; at = at } in
    unless_fault (record names { timed = names.timed ++ timed ∷ [] }) (follows timed (slice_get names.timed (length names.timed - 1)))

-- behind the number of a task, one blank and the rest of the line: its name
abbrev pub with_named_task : Names → Option ℕ → List ℕ → Result Names NamesFaultKind
with_named_task names None name = Err BadTask
with_named_task names (Some task) name = if is_task_name name then with_name names task name else Err BadName

abbrev pub with_named : Names → List ℕ → Result Names NamesFaultKind
with_named names rest = with_named_task names (task_of (before_first is_blank rest)) (after_first is_blank rest)

-- behind the number of a line, one blank and the rest of the line: its seconds
abbrev pub with_seconds : Names → ℕ → Option ℕ → Result Names NamesFaultKind
with_seconds names line None = Err BadTime
with_seconds names line (Some at) = with_time names line at

abbrev pub with_timed_line : Names → Option ℕ → List ℕ → Result Names NamesFaultKind
with_timed_line names None seconds = Err BadLine
with_timed_line names (Some line) seconds = with_seconds names line (seconds_of seconds)

abbrev pub with_timed : Names → List ℕ → Result Names NamesFaultKind
with_timed names rest = with_timed_line names (line_of (before_first is_blank rest)) (after_first is_blank rest)

-- what is known with a line
abbrev pub with_line : Names → List ℕ → Result Names NamesFaultKind
with_line names line =
    let word = before_first is_blank line in let rest = after_first is_blank line in
    if bytes_eq word (codes "task") then with_named names rest
    else if bytes_eq word (codes "line") then with_timed names rest
    else Err UnknownWord

abbrev pub at_line : {A : Type 0} → ℕ → Result A NamesFaultKind → Result A NamesFault
at_line number (Ok value) = Ok value
at_line number (Err kind) = Err (record { line = number; kind = kind })

-- what is known with these lines, in order; the first has this number
abbrev pub with_lines : ℕ → List (List ℕ) → Names → Result Names NamesFault
with_lines number [] names = Ok names
with_lines number (line ∷ more) names = at_line number (with_line names line) >>= with_lines (suc number) more

-- what a text tells, or its first faulty line; lines count from 1
abbrev pub names_of : List ℕ → Result Names NamesFault
names_of text = with_lines 1 (lines text) nothing_known

-- the names are those that were to come out; or the fault is, and the names are as before; but memory may be short in place of either
abbrev pub IsOutcome : Names → Result Names NamesFaultKind → Names → Result (Unit {0}) NamesFaultKind → Type 0
IsOutcome before wanted after (Ok done) = wanted ≡ Ok after
IsOutcome before wanted after (Err NoMemory) = after ≡ before
IsOutcome before wanted after (Err kind) = (wanted ≡ Err kind) × (after ≡ before)

-- the fault is that of the first faulty line; but memory may be short at any line
abbrev pub IsFaultOf : List ℕ → ℕ → NamesFaultKind → Type 0
IsFaultOf text line NoMemory = Unit {0}
IsFaultOf text line kind = names_of text ≡ Err (record { line = line; kind = kind })
