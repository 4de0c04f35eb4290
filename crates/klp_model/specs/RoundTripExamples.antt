-- Small catalogs with a patch, and lists of events for it.
use Rattle.std.specs.Prelude.{ℕ, ℤ, pos, negsuc, true, false, List, [], ◌∷◌, replicate, Some, None}
use Rattle.std.specs.Int.{w64, to_le_bytes}
use Rattle.std.specs.FinMap as finite
use Rattle.klp_types.specs.declared.shadow.ShadowKey.{ShadowKey}
use Rattle.klp_types.specs.declared.edit.Edit.{Edit}
use Rattle.klp_types.specs.declared.edit.Edit.TheVariants.{Alloc, Free}
use Rattle.klp_types.specs.declared.callback.Which.{Which}
use Rattle.klp_types.specs.declared.callback.Which.TheVariants.{Pre, Post, PreUn, PostUn}
use Rattle.klp_types.specs.World.{ShadowValue}
use Rattle.klp_types.specs.Image.{Object}
use Rattle.klp_types.specs.Setting.{Callback, PatchObject, Setting}
use Rattle.klp_model.specs.declared.event.Event.{Event}
use Rattle.klp_model.specs.declared.event.Event.TheVariants.{Enable, SetEnabled, Poll, EnterKernel, ExitToUser, Wake, ShadowAlloc}
use Rattle.klp_types.specs.declared.version.Version.{Version}
use Rattle.klp_types.specs.declared.version.Version.TheVariants.{Original}
use Rattle.klp_types.specs.declared.task.Mode.{Mode}
use Rattle.klp_types.specs.declared.task.Mode.TheVariants.{Asleep}
use Rattle.klp_model.specs.Task.{Tasks}
use Rattle.klp_model.specs.State.{State, with_tasks}

abbrev pub key_of : ℕ → ℕ → ShadowKey
key_of obj id = record { obj = obj; id = id }

-- the value of a number
abbrev pub value_of : ℕ → ShadowValue
value_of number = to_le_bytes w64 number

-- a callback that makes these edits and succeeds
abbrev pub making : Which → List Edit → Callback
making which edits = record { which = which; script = record { edits = edits; status = pos 0 } }

-- an object with one function
abbrev pub small_object : Object
small_object = record { name = []; symbols = record { name = []; address = 100; body = 1 ∷ 2 ∷ 3 ∷ 4 ∷ 5 ∷ 6 ∷ [] } ∷ [] }

-- a cumulative patch whose pre-patch adds the variable (1, 9) and whose post-patch adds (1, 10); pre-unpatch and
-- post-unpatch remove them
abbrev pub adding : Setting
adding = record {
  image = record { handler = 0; objects = small_object ∷ [] };
  patches = record {
    replace = true;
    objects = record {
      object = 0;
      functions = record { site = Some 0; address = 500 } ∷ [];
      callbacks = making Pre (Alloc (key_of 1 9) (value_of 5) ∷ []) ∷ making Post (Alloc (key_of 1 10) (value_of 6) ∷ [])
          ∷ making PreUn (Free (key_of 1 10) ∷ []) ∷ making PostUn (Free (key_of 1 9) ∷ []) ∷ [];
    } ∷ [];
    states = [];
  } ∷ [];
}

-- nothing is installed, and there is no task and no variable
abbrev pub bare : State
bare = record { loaded = true ∷ []; world = record { installed = []; shadow = finite.empty }; moving = None; pinned = false ∷ []; tasks = [] }

abbrev pub one_task : Mode → ℤ → List Version → Tasks
one_task mode state frames = Some (record { state = state; mode = mode; frames = frames }) ∷ replicate 63 None

-- a task sleeps inside of the original
abbrev pub with_a_sleeper : State
with_a_sleeper = with_tasks bare (one_task Asleep (negsuc 0) (Original 0 ∷ []))

-- the patch is enabled, blocked by the sleeper, reversed twice, and another variable is added; it completes once
-- the sleeper has left the kernel; it is disabled, and gone once the task has entered the kernel and left it
abbrev pub every_stage : List Event
every_stage =
    Enable 0 ∷ Poll ∷ SetEnabled 0 false ∷ SetEnabled 0 true ∷ ShadowAlloc (key_of 7 7) (value_of 1) ∷ Wake 0 ∷ ExitToUser 0 ∷ Poll
    ∷ SetEnabled 0 false ∷ Poll ∷ EnterKernel 0 ∷ ExitToUser 0 ∷ Poll ∷ []

-- the patch's own variable exists before the patch is enabled
abbrev pub own_variable_first : List Event
own_variable_first = ShadowAlloc (key_of 1 9) (value_of 77) ∷ Enable 0 ∷ Poll ∷ SetEnabled 0 false ∷ Poll ∷ []

-- pre-patch of one object removes the variable (1, 1), and post-unpatch adds it with 5; pre-patch of the next
-- object adds it with 9
abbrev pub sharing : Setting
sharing = record {
  image = record { handler = 0; objects = small_object ∷ small_object ∷ [] };
  patches = record {
    replace = false;
    objects = record { object = 0; functions = []; callbacks = making Pre (Free (key_of 1 1) ∷ []) ∷ making PostUn (Alloc (key_of 1 1) (value_of 5) ∷ []) ∷ [] }
        ∷ record { object = 1; functions = []; callbacks = making Pre (Alloc (key_of 1 1) (value_of 9) ∷ []) ∷ [] } ∷ [];
    states = [];
  } ∷ [];
}

-- both objects are loaded, and the variable is 5
abbrev pub with_five : State
with_five = record {
  loaded = true ∷ true ∷ [];
  world = record { installed = []; shadow = finite.insert finite.empty (key_of 1 1) (value_of 5) };
  moving = None;
  pinned = false ∷ [];
  tasks = [];
}

abbrev pub there_and_back : List Event
there_and_back = Enable 0 ∷ SetEnabled 0 false ∷ Poll ∷ []

-- a patch for two objects, of which the second refuses: pre-patch of the first adds a variable, and post-unpatch
-- removes it
abbrev pub refusing_behind : Setting
refusing_behind = record {
  image = record { handler = 0; objects = small_object ∷ small_object ∷ [] };
  patches = record {
    replace = false;
    objects = record { object = 0; functions = []; callbacks = making Pre (Alloc (key_of 1 9) (value_of 5) ∷ []) ∷ making PostUn (Free (key_of 1 9) ∷ []) ∷ [] }
        ∷ record { object = 1; functions = []; callbacks = record { which = Pre; script = record { edits = []; status = negsuc 15 } } ∷ [] } ∷ [];
    states = [];
  } ∷ [];
}

-- both objects are loaded, and nothing is installed
abbrev pub both_loaded : State
both_loaded = record {
  loaded = true ∷ true ∷ [];
  world = record { installed = []; shadow = finite.empty };
  moving = None;
  pinned = false ∷ [];
  tasks = [];
}

-- an object whose callback of this kind removes the variable (1, 9)
abbrev pub freeing : Which → PatchObject
freeing which = record { object = 0; functions = []; callbacks = making which (Free (key_of 1 9) ∷ []) ∷ [] }
