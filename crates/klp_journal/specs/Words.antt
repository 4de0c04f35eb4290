-- Undo records as words: what a record says of its row, and after it a tag with its kind and its number of words.
use Rattle.std.specs.Prelude.{◌≡◌, ℕ, zero, suc, ◌+◌, ◌*◌, ◌/◌, ◌^◌, ◌<◌, ◌≤◌, ℤ, pos, negsuc, Bool, List, [], ◌∷◌, ◌++◌, length, map, take, drop, Option, Some, None, IfSome, if◌then◌else◌}
use Rattle.std.specs.List.{All, flat_map}
use Rattle.std.specs.Int.{w64, from_le_bytes}
use Rattle.klp_types.specs.declared.version.Version.{Version}
use Rattle.klp_types.specs.declared.version.Version.TheVariants.{Original, New}
use Rattle.klp_types.specs.declared.task.Mode.{Mode}
use Rattle.klp_types.specs.declared.task.Mode.TheVariants.{User, Kernel, Asleep}
use Rattle.klp_types.specs.declared.task.Task.{Task}
use Rattle.klp_types.specs.declared.record.Place.{Place}
use Rattle.klp_types.specs.declared.record.Record.{Record}
use Rattle.klp_types.specs.declared.record.Record.TheVariants.{TaskRow, NoTaskRow, ShadowVariable, NoShadowVariable, StateValue, StateRow, LoadedFlag, InstalledPatch, StackEntry, HookFlag, Moving, NothingMoving, PinnedFlag}
use Rattle.klp_journal.specs.declared.kinds.TheConstants.{KIND_TASK, KIND_VARIABLE, KIND_STATE_VALUE, KIND_STATE, KIND_LOADED, KIND_INSTALLED, KIND_ENTRY, KIND_HOOK, KIND_TRANSITION, KIND_PINNED}
use Rattle.klp_types.specs.Padded.{padded}
use Rattle.klp_types.specs.PatchStates.{IsPatchState}

-- a flag: 0 or 1
abbrev pub flag_word : Bool → ℕ
flag_word flag = if flag then 1 else 0

-- the word of a patch state: 0 for -1, 1 for 0 and 2 for 1
abbrev pub state_word : ℤ → ℕ
state_word (pos n) = suc n
state_word (negsuc n) = 0

-- the word of a mode
abbrev pub mode_word : Mode → ℕ
mode_word User = 0
mode_word Kernel = 1
mode_word Asleep = 2

-- the word of a task's patch state and mode
abbrev pub task_word : Task → ℕ
task_word task = state_word task.state + 4 * mode_word task.mode

-- the word of a frame: an original is its site's number; a new function is above all sites, by its patch and its
-- number there
abbrev pub frame_word : Version → ℕ
frame_word (Original site) = site
frame_word (New patch func) = 65536 * (patch + 1) + func

-- this many words of bytes, eight bytes to a word, the lowest byte first
abbrev pub byte_words : ℕ → List ℕ → List ℕ
byte_words zero bytes = []
byte_words (suc more) bytes = from_le_bytes w64 (take 8 bytes) ∷ byte_words more (drop 8 bytes)

-- the bytes of a value, in as many words as they need; the last word is filled up with zeros
abbrev pub bytes_as_words : List ℕ → List ℕ
bytes_as_words bytes = byte_words ((length bytes + 7) / 8) (padded 64 0 bytes)

-- what an entry does: 0 for a nop, else the function plus 1
abbrev pub func_word : Option ℕ → ℕ
func_word None = 0
func_word (Some func) = suc func

-- the word of a number, if there is one
abbrev pub number_words : Option ℕ → List ℕ
number_words None = []
number_words (Some number) = number ∷ []

-- the place and the function that an entry had, if it existed
abbrev pub place_words : Option Place → List ℕ
place_words None = []
place_words (Some place) = place.index ∷ func_word place.func ∷ []

-- which row a record is of, and what the row was
abbrev pub words_before_tag : Record → List ℕ
words_before_tag (TaskRow task was) = task ∷ task_word was ∷ map frame_word was.frames
words_before_tag (NoTaskRow task) = task ∷ []
words_before_tag (ShadowVariable key was) = key.obj ∷ key.id ∷ length was ∷ bytes_as_words was
words_before_tag (NoShadowVariable key) = key.obj ∷ key.id ∷ []
words_before_tag (StateValue patch id was) = patch ∷ id ∷ was ∷ []
words_before_tag (StateRow patch id was) = patch ∷ id ∷ number_words was
words_before_tag (LoadedFlag object was) = object ∷ flag_word was ∷ []
words_before_tag (InstalledPatch patch place) = patch ∷ number_words place
words_before_tag (StackEntry site patch was) = site ∷ patch ∷ place_words was
words_before_tag (HookFlag site was) = site ∷ flag_word was ∷ []
words_before_tag (Moving was) = was.patch ∷ flag_word was.target ∷ []
words_before_tag NothingMoving = []
words_before_tag (PinnedFlag patch was) = patch ∷ flag_word was ∷ []

-- the kind of a record; it is the same whether the row existed or not
abbrev pub kind_of : Record → ℕ
kind_of (TaskRow task was) = KIND_TASK
kind_of (NoTaskRow task) = KIND_TASK
kind_of (ShadowVariable key was) = KIND_VARIABLE
kind_of (NoShadowVariable key) = KIND_VARIABLE
kind_of (StateValue patch id was) = KIND_STATE_VALUE
kind_of (StateRow patch id was) = KIND_STATE
kind_of (LoadedFlag object was) = KIND_LOADED
kind_of (InstalledPatch patch place) = KIND_INSTALLED
kind_of (StackEntry site patch was) = KIND_ENTRY
kind_of (HookFlag site was) = KIND_HOOK
kind_of (Moving was) = KIND_TRANSITION
kind_of NothingMoving = KIND_TRANSITION
kind_of (PinnedFlag patch was) = KIND_PINNED

-- the words of a record: what it says, and then the tag, from which it is read backwards
abbrev pub words_of : Record → List ℕ
words_of row = words_before_tag row ++ (kind_of row + 256 * length (words_before_tag row)) ∷ []

-- the words of records one after another, oldest first
abbrev pub words_of_all : List Record → List ℕ
words_of_all rows = flat_map words_of rows

-- the number, if there is one, is below the limit
abbrev pub IsBelow : ℕ → Option ℕ → Type 0
IsBelow limit None = Unit {0}
IsBelow limit (Some number) = number < limit

-- the numbers of a frame are in the ranges of their types
abbrev pub IsFrame : Version → Type 0
IsFrame (Original site) = site < 65536
IsFrame (New patch func) = (patch < 256) × (func < 65536)

-- a task has a possible patch state, and at most 32 frames
abbrev pub IsTask : Task → Type 0
IsTask task = IsPatchState task.state × (length task.frames ≤ 32) × All IsFrame task.frames

-- a value has at most 64 bytes
abbrev pub IsValue : List ℕ → Type 0
IsValue bytes = (length bytes ≤ 64) × All (λ b. b < 256) bytes

-- the numbers of an entry's place are in the ranges of their types
abbrev pub IsPlace : Place → Type 0
IsPlace place = (place.index < 256) × IsBelow 65536 place.func

-- each number of a record is in the range of its type, as in every record of the program
abbrev pub IsRecord : Record → Type 0
IsRecord (TaskRow task was) = (task < 256) × IsTask was
IsRecord (NoTaskRow task) = task < 256
IsRecord (ShadowVariable key was) = (key.obj < 2 ^ 64) × (key.id < 2 ^ 64) × IsValue was
IsRecord (NoShadowVariable key) = (key.obj < 2 ^ 64) × (key.id < 2 ^ 64)
IsRecord (StateValue patch id was) = (patch < 256) × (id < 2 ^ 64) × (was < 2 ^ 64)
IsRecord (StateRow patch id was) = (patch < 256) × (id < 2 ^ 64) × IsBelow (2 ^ 64) was
IsRecord (LoadedFlag object was) = object < 256
IsRecord (InstalledPatch patch place) = (patch < 256) × IsBelow 256 place
IsRecord (StackEntry site patch was) = (site < 65536) × (patch < 256) × IfSome was IsPlace
IsRecord (HookFlag site was) = site < 65536
IsRecord (Moving was) = was.patch < 256
IsRecord NothingMoving = Unit {0}
IsRecord (PinnedFlag patch was) = patch < 256

-- the patch state that has this word
abbrev pub IsStateOf : ℕ → ℤ → Type 0
IsStateOf word state = (state_word state ≡ word) × IsPatchState state

-- the frame that has this word
abbrev pub IsFrameOf : ℕ → Version → Type 0
IsFrameOf word frame = (frame_word frame ≡ word) × IsFrame frame

-- the frames that have these words
abbrev pub AreFramesOf : List ℕ → List Version → Type 0
AreFramesOf words frames = (map frame_word frames ≡ words) × (length frames ≤ 32) × All IsFrame frames

-- the task that has this word for its state and mode, and these words of frames
abbrev pub IsTaskOf : ℕ → List ℕ → Task → Type 0
IsTaskOf word frames task = (task_word task ≡ word) × (map frame_word task.frames ≡ frames) × IsTask task

-- the place that has these words
abbrev pub IsPlaceOf : List ℕ → Place → Type 0
IsPlaceOf words place = (place_words (Some place) ≡ words) × IsPlace place

-- the value of `count` bytes that has these words
abbrev pub IsValueOf : ℕ → List ℕ → List ℕ → Type 0
IsValueOf count words bytes = (length bytes ≡ count) × (bytes_as_words bytes ≡ words) × IsValue bytes

-- the record is of this kind, and has these words before its tag
abbrev pub IsBody : ℕ → List ℕ → Record → Type 0
IsBody kind words row = (kind_of row ≡ kind) × (words_before_tag row ≡ words) × IsRecord row
