-- The steps of two tasks in a text: each line is a step of one of them.
use Rattle.std.specs.Prelude.{◌≡◌, ◌≢◌, ◌≤◌, ◌⊎◌, ℕ, ◌+◌, ◌==◌, not, nat_lt, if◌then◌else◌, List, [], ◌∷◌, ◌++◌, length, drop, filter_map, codes, bytes_eq, Option, Some, None, IsSome, option_map, option_and_then}
use Rattle.std.specs.List.{All, position_or_len, before_first, after_first}
use Rattle.klp_types.specs.declared.limits.TheConstants.{MAX_CONSOLE_LINE}
use Rattle.klp_words.specs.Split.{separates, words_between}
use Rattle.klp_words.specs.declared.split.Separators.TheVariants.{Spaces}
use Rattle.klp_core.specs.Journaled.{Journaled}
use Rattle.klp_console.specs.Asked.{event_of, site_of}
use Rattle.klp_live_bodies.specs.declared.step.Step.{Step}
use Rattle.klp_live_bodies.specs.declared.step.Step.TheVariants.{Submit, Call, Return, Nap}
use Rattle.klp_live_run.specs.declared.step_lines.TheConstants.{MAX_STEPS}
use Rattle.klp_live_run.specs.declared.step_lines.Half.{Half}
use Rattle.klp_live_run.specs.declared.step_lines.Half.TheVariants.{First, Second}
use Rattle.klp_live_run.specs.declared.fault.ReadFault.{ReadFault}
use Rattle.klp_live_run.specs.declared.fault.ReadFault.TheVariants.{NoMemory, Steps}
use Rattle.klp_live_run.specs.declared.fault.StepsFaultKind.{StepsFaultKind}
use Rattle.klp_live_run.specs.declared.fault.StepsFaultKind.TheVariants.{BadStep, TooMany}

-- the line without its leading spaces
abbrev pub unindented : List ℕ → List ℕ
unindented line = drop (position_or_len (λ b. not (b == 32)) line) line

-- the call of SYMBOL
abbrev pub call_of : Journaled → List (List ℕ) → Option Step
call_of manager (symbol ∷ []) = option_map Call (site_of manager symbol)
call_of manager words = None

-- a step whose line has no further words
abbrev pub alone : Step → List (List ℕ) → Option Step
alone step [] = Some step
alone step words = None

-- the step of a line with these words
abbrev pub step_with : Journaled → List ℕ → List (List ℕ) → Option Step
step_with manager line [] = None
step_with manager line (first ∷ words) =
    if bytes_eq first (codes "call") then call_of manager words
    else if bytes_eq first (codes "return") then alone Return words
    else if bytes_eq first (codes "nap") then alone Nap words
    else if nat_lt MAX_CONSOLE_LINE (length line) then None
    else option_map Submit (event_of manager line)

-- `call SYMBOL`, `return`, `nap`, or a console line that asks for an event; only the latter is limited in length
abbrev pub step_of : Journaled → List ℕ → Option Step
step_of manager line = step_with manager line (words_between (separates Spaces) line)

-- which of the two tasks a word numbers
abbrev pub half_of : List ℕ → Option Half
half_of word = if bytes_eq word (codes "1") then Some First else if bytes_eq word (codes "2") then Some Second else None

-- the first word of a line, and below it what comes behind that word
abbrev pub number_in : List ℕ → List ℕ
number_in line = before_first (λ b. b == 32) (unindented line)

abbrev pub rest_of : List ℕ → List ℕ
rest_of line = unindented (after_first (λ b. b == 32) (unindented line))

-- the task that a line numbers, and its step
abbrev pub task_step : Journaled → List ℕ → Option (Half × Step)
task_step manager line = option_and_then (λ half. option_map (λ step. (half, step)) (step_of manager (rest_of line))) (half_of (number_in line))

-- the step, if it is one of this task
abbrev pub of_half : Half → Option (Half × Step) → Option Step
of_half First (Some (First, step)) = Some step
of_half Second (Some (Second, step)) = Some step
of_half half other = None

-- whether the line has no words, or is a step of one of the two
abbrev pub IsGood : Journaled → List ℕ → Type 0
IsGood manager line = (unindented line ≡ []) ⊎ IsSome (task_step manager line)

-- whether the line has words, and is no step
abbrev pub IsBad : Journaled → List ℕ → Type 0
IsBad manager line = (unindented line ≢ []) × (task_step manager line ≡ None)

-- the steps of this task in the lines, in their order
abbrev pub steps_in : Journaled → Half → List (List ℕ) → List Step
steps_in manager half lines = filter_map (λ line. of_half half (task_step manager line)) lines

-- the lines are the steps of the two tasks, and neither has too many
pub record AreSteps (manager : Journaled) (lines : List (List ℕ)) (first second : List Step) : Type 0 where
  pub good : All (IsGood manager) lines
  pub first_is : first ≡ steps_in manager First lines
  pub second_is : second ≡ steps_in manager Second lines
  pub first_fits : length first ≤ MAX_STEPS
  pub second_fits : length second ≤ MAX_STEPS

-- how many steps this task has
abbrev pub count_of : Half → List Step → List Step → ℕ
count_of First first second = length first
count_of Second first second = length second

-- what is wrong with a line that comes behind these steps
abbrev pub IsKind : Journaled → List ℕ → List Step → List Step → StepsFaultKind → Type 0
IsKind manager line first second BadStep = IsBad manager line
IsKind manager line first second TooMany =
    (half : Half) × (step : Step) × (task_step manager line ≡ Some (half, step)) × (count_of half first second ≡ MAX_STEPS)

-- the first line at fault, counted from 1
pub record IsFirstFault (manager : Journaled) (lines : List (List ℕ)) (number : ℕ) (kind : StepsFaultKind) : Type 0 where
  pub earlier : List (List ℕ)
  pub line : List ℕ
  pub later : List (List ℕ)
  pub first : List Step
  pub second : List Step
  pub parted : lines ≡ earlier ++ line ∷ later
  pub number_is : number ≡ length earlier + 1
  pub read : AreSteps manager earlier first second
  pub kind_is : IsKind manager line first second kind

-- why steps aren't read; if memory ran out, a line may be at fault too
abbrev pub IsReadFault : Journaled → List (List ℕ) → ReadFault → Type 0
IsReadFault manager lines NoMemory = Unit {0}
IsReadFault manager lines (Steps fault) = IsFirstFault manager lines fault.line fault.kind
