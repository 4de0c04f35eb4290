-- What a trace has of a log: for each sample the states of the tasks that it names, and the files of the patches.
use Rattle.std.specs.Prelude.{◌≡◌, ℕ, ◌-◌, ◌==◌, ◌&&◌, ◌||◌, Bool, true, false, not, nat_eq, nat_le, nat_lt, if◌then◌else◌, List, [], ◌∷◌, ◌++◌, length, take, drop, codes, bytes_eq, Option, Some, None}
use Rattle.std.specs.List.{starts_with, after_first, find, flat_map}
use Rattle.std.specs.Fmt.{decimal}
use Rattle.klp_capture.specs.declared.capture.Capture.{Capture}
use Rattle.klp_capture.specs.declared.capture.PatchRow.{PatchRow}
use Rattle.klp_capture.specs.declared.capture.PatchRow.TheVariants.{Patch}
use Rattle.klp_capture.specs.declared.capture.Sample.{Sample}
use Rattle.klp_capture.specs.declared.capture.SeenTask.{SeenTask}
use Rattle.klp_capture.specs.declared.capture.Span.{Span}
use Rattle.klp_capture.specs.declared.line.PatchedState.{PatchedState}
use Rattle.klp_capture.specs.declared.line.PatchedState.TheVariants.{Undefined, Unpatched, Patched}
use Rattle.klp_capture.specs.declared.thread.Thread.{Thread}
use Rattle.klp_capture.specs.declared.time.BootTime.{BootTime}
use Rattle.klp_capture.specs.declared.thread.PatchName.{PatchName}

-- some of the items of a list that follow one another; none if the list has fewer
abbrev pub span_of : {X : Type 0} → Span → List X → List X
span_of span items = if nat_le span.from span.to && nat_le span.to (length items) then take (span.to - span.from) (drop span.from items) else []

-- a patch that is there, of this name; while its folder is made or taken away, both of its files read 0
abbrev pub is_there_as : List ℕ → PatchRow → Bool
is_there_as wanted (Patch name enabled moving newer) = bytes_eq name.now wanted && (enabled || moving)
is_there_as wanted row = false

abbrev pub flag_text : Bool → List ℕ
flag_text true = codes " 1"
flag_text false = codes " 0"

-- what the files of a patch read: saw PATCH ENABLED TRANSITION
abbrev pub files_text : Option PatchRow → List ℕ
files_text (Some (Patch name enabled moving newer)) = flag_text enabled ++ flag_text moving
files_text other = codes " gone"

abbrev pub files_item : List PatchRow → List ℕ → List ℕ
files_item rows name = codes "saw " ++ name ++ files_text (find (is_there_as name) rows)

abbrev pub state_text : PatchedState → List ℕ
state_text Undefined = codes " -1"
state_text Unpatched = codes " 0"
state_text Patched = codes " 1"

-- what the state of a task is: saw NUMBER STATE
abbrev pub state_item : ℕ → PatchedState → List ℕ
state_item number state = codes "saw " ++ decimal number ++ state_text state

abbrev pub is_thread : SeenTask → Thread → Bool
is_thread seen thread = thread.thread == seen.task.thread && thread.start == seen.task.start

-- a task that has a number in the trace; others are left out
abbrev pub item_of_thread : SeenTask → Option Thread → List (List ℕ)
item_of_thread seen None = []
item_of_thread seen (Some thread) = state_item thread.number seen.task.state ∷ []

abbrev pub task_items : List Thread → SeenTask → List (List ℕ)
task_items threads seen = item_of_thread seen (find (is_thread seen) threads)

abbrev pub patch_items : List PatchRow → PatchName → List (List ℕ)
patch_items rows patch = files_item rows patch.name.now ∷ []

-- what a trace has of a sample
abbrev pub sample_items : Capture → List PatchName → List Thread → Sample → List (List ℕ)
sample_items capture patches threads sample =
    flat_map (task_items threads) (span_of sample.tasks capture.seen.items) ++ flat_map (patch_items (span_of sample.patches capture.rows.items)) patches

-- a sample before and after which the files of the patches read the same
abbrev pub is_settled : Sample → Bool
is_settled sample = not sample.line.is_torn

-- a line without its time: @SECONDS ITEM
abbrev pub is_space : ℕ → Bool
is_space b = b == 32

abbrev pub item_in : List ℕ → List ℕ
item_in line = if starts_with nat_eq line (codes "@") then after_first is_space (drop 1 line) else line

-- a line with this item stands among the lines `from`, and the lines `to` are behind it
pub record StandsIn (item : List ℕ) (from to : List (List ℕ)) : Type 0 where
  pub earlier : List (List ℕ)
  pub line : List ℕ
  pub parted : from ≡ earlier ++ line ∷ to
  pub is : item_in line ≡ item

-- lines with these items stand among the lines `from` in this order, and the lines `to` are behind them
abbrev pub StandInOrder : List (List ℕ) → List (List ℕ) → List (List ℕ) → Type 0
StandInOrder [] from to = from ≡ to
StandInOrder (item ∷ items) from to = (behind : List (List ℕ)) × StandsIn item from behind × StandInOrder items behind to

-- a sample that had ended before a force
abbrev pub is_before : Option BootTime → Sample → Bool
is_before None sample = true
is_before (Some forced) sample = nat_lt sample.line.to.0 forced.0

abbrev pub is_judged : Option BootTime → Sample → Bool
is_judged forced sample = is_before forced sample && is_settled sample

abbrev pub judged_items : Capture → Option BootTime → List PatchName → List Thread → Sample → List (List ℕ)
judged_items capture forced patches threads sample = if is_judged forced sample then sample_items capture patches threads sample else []

-- the lines have each of these samples that is settled and before the force, one behind the other
pub record ShowSamples (capture : Capture) (forced : Option BootTime) (patches : List PatchName) (threads : List Thread) (samples : List Sample)
    (lines : List (List ℕ)) : Type 0 where
  pub rest : List (List ℕ)
  pub stand : StandInOrder (flat_map (judged_items capture forced patches threads) samples) lines rest

-- the samples before one of this number, or all
abbrev pub samples_before : Option ℕ → List Sample → List Sample
samples_before None samples = samples
samples_before (Some number) samples = take number samples
