-- Words read backwards. These definitions also give a result for words that aren't a record's, but nothing relies
-- on that.
use Rattle.std.specs.Prelude.{ℕ, zero, suc, ◌-◌, ◌/◌, ◌%◌, ◌==◌, nat_lt, ℤ, pos, negsuc, List, length, map, take, drop, get_or, Option, Some, None, if◌then◌else◌}
use Rattle.std.specs.List.{flat_map}
use Rattle.std.specs.Int.{w64, to_le_bytes}
use Rattle.klp_types.specs.declared.version.Version.{Version}
use Rattle.klp_types.specs.declared.version.Version.TheVariants.{Original, New}
use Rattle.klp_types.specs.declared.task.Mode.{Mode}
use Rattle.klp_types.specs.declared.task.Mode.TheVariants.{User, Kernel, Asleep}
use Rattle.klp_types.specs.declared.task.Task.{Task}
use Rattle.klp_journal.specs.declared.kinds.TheConstants.{KIND_TASK, KIND_VARIABLE, KIND_STATE_VALUE, KIND_STATE, KIND_LOADED, KIND_INSTALLED, KIND_ENTRY, KIND_HOOK, KIND_TRANSITION}
use Rattle.klp_types.specs.declared.record.Place.{Place}
use Rattle.klp_types.specs.declared.record.Record.{Record}
use Rattle.klp_types.specs.declared.record.Record.TheVariants.{TaskRow, NoTaskRow, ShadowVariable, NoShadowVariable, StateValue, StateRow, LoadedFlag, InstalledPatch, StackEntry, HookFlag, Moving, NothingMoving, PinnedFlag}

-- the patch state of a word
abbrev pub state_of : ℕ → ℤ
state_of zero = negsuc 0
state_of (suc n) = pos n

-- the mode of a word
abbrev pub mode_of : ℕ → Mode
mode_of zero = User
mode_of (suc zero) = Kernel
mode_of (suc (suc n)) = Asleep

-- the frame of a word
abbrev pub frame_of : ℕ → Version
frame_of word = if nat_lt word 65536 then Original word else New (word / 65536 - 1) (word % 65536)

-- a task, from the word of its state and mode, and the words of its frames
abbrev pub task_of : ℕ → List ℕ → Task
task_of word frames = record { state = state_of (word % 4); mode = mode_of (word / 4); frames = map frame_of frames }

-- the bytes of words
abbrev pub bytes_in : List ℕ → List ℕ
bytes_in words = flat_map (to_le_bytes w64) words

-- the function of an entry
abbrev pub func_of : ℕ → Option ℕ
func_of zero = None
func_of (suc func) = Some func

-- the word at this index
abbrev pub word_at : List ℕ → ℕ → ℕ
word_at body place = get_or body place 0

-- the number after the first `count` words, or None if there are no more words
abbrev pub number_behind : ℕ → List ℕ → Option ℕ
number_behind count body = if length body == count then None else Some (word_at body count)

-- a record of a task
abbrev pub task_record : List ℕ → Record
task_record body =
    if length body == 1 then NoTaskRow (word_at body 0) else TaskRow (word_at body 0) (task_of (word_at body 1) (drop 2 body))

-- a record of a shadow variable
abbrev pub variable_record : List ℕ → Record
variable_record body =
    if length body == 2 then NoShadowVariable (record { obj = word_at body 0; id = word_at body 1 }) else ShadowVariable (record { obj = word_at body 0; id = word_at body 1 }) (take (word_at body 2) (bytes_in (drop 3 body)))

-- the place and the function that an entry had, or None if it didn't exist
abbrev pub place_behind : List ℕ → Option Place
place_behind body =
    if length body == 2 then None else Some (record { index = word_at body 2; func = func_of (word_at body 3) })

-- a record of the transition
abbrev pub moving_record : List ℕ → Record
moving_record body =
    if length body == 0 then NothingMoving else Moving (record { patch = word_at body 0; target = word_at body 1 == 1 })

-- the record of this kind with these words before its tag
unfoldable pub record_of : ℕ → List ℕ → Record
record_of kind body =
    if kind == KIND_TASK then task_record body
    else if kind == KIND_VARIABLE then variable_record body
    else if kind == KIND_STATE_VALUE then StateValue (word_at body 0) (word_at body 1) (word_at body 2)
    else if kind == KIND_STATE then StateRow (word_at body 0) (word_at body 1) (number_behind 2 body)
    else if kind == KIND_LOADED then LoadedFlag (word_at body 0) (word_at body 1 == 1)
    else if kind == KIND_INSTALLED then InstalledPatch (word_at body 0) (number_behind 1 body)
    else if kind == KIND_ENTRY then StackEntry (word_at body 0) (word_at body 1) (place_behind body)
    else if kind == KIND_HOOK then HookFlag (word_at body 0) (word_at body 1 == 1)
    else if kind == KIND_TRANSITION then moving_record body
    else PinnedFlag (word_at body 0) (word_at body 1 == 1)
