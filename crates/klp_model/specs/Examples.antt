-- A small kernel with patches and tasks, and states of it, over which the definitions are computed.
use Rattle.std.specs.Prelude.{ℕ, ℤ, pos, Bool, true, false, List, [], ◌∷◌, map, replicate, Option, Some, None}
use Rattle.std.specs.Int.{w64, to_le_bytes}
use Rattle.std.specs.FinMap as finite
use Rattle.klp_types.specs.declared.callback.Which.{Which}
use Rattle.klp_types.specs.declared.callback.Which.TheVariants.{Pre, Post}
use Rattle.klp_types.specs.declared.edit.Edit.{Edit}
use Rattle.klp_types.specs.declared.edit.Edit.TheVariants.{Alloc, SetData, TakePrev}
use Rattle.klp_types.specs.declared.version.Version.{Version}
use Rattle.klp_types.specs.declared.version.Transition.{Transition}
use Rattle.klp_types.specs.Setting.{Function, Callback, PatchObject, Patch, Setting}
use Rattle.klp_types.specs.Compatible.{SystemState}
use Rattle.klp_types.specs.World.{Installed}
use Rattle.klp_types.specs.Callbacks.{Call}
use Rattle.klp_types.specs.Examples.{kernel, callbacks_for}
use Rattle.klp_types.specs.declared.task.Mode.TheVariants.{User, Kernel, Asleep}
use Rattle.klp_types.specs.declared.task.Task.{Task}
use Rattle.klp_model.specs.Task.{Tasks}
use Rattle.klp_model.specs.State.{State}

abbrev pub function_at : ℕ → Function
function_at site = record { site = Some site; address = site }

-- an object of a patch with all four callbacks, none of which refuses
abbrev pub quiet_object : ℕ → List Function → PatchObject
quiet_object object functions = record { object = object; functions = functions; callbacks = callbacks_for 2 object }

-- p patches f and h of the kernel and g of the module; c is a cumulative patch with a function only for f; q
-- patches f; r patches g, and its pre-patch refuses the module
abbrev pub p : Patch
p = record {
  replace = false;
  objects = quiet_object 0 (function_at 0 ∷ function_at 1 ∷ []) ∷ quiet_object 1 (function_at 2 ∷ []) ∷ [];
  states = [];
}

abbrev pub c : Patch
c = record { replace = true; objects = quiet_object 0 (function_at 0 ∷ []) ∷ []; states = [] }

abbrev pub q : Patch
q = record { replace = false; objects = quiet_object 0 (function_at 0 ∷ []) ∷ []; states = [] }

abbrev pub r : Patch
r = record { replace = false; objects = record { object = 1; functions = function_at 2 ∷ []; callbacks = callbacks_for 1 1 } ∷ []; states = [] }

abbrev pub small_kernel : Setting
small_kernel = record { image = kernel; patches = p ∷ c ∷ q ∷ r ∷ [] }

abbrev pub move_of : ℕ → Bool → Option Transition
move_of patch target = Some (record { patch = patch; target = target })

abbrev pub installed : ℕ → Installed
installed patch = record { patch = patch; values = [] }

-- a state with these patches installed, oldest first; the module is loaded or not
abbrev pub state_with : Bool → List ℕ → Option Transition → Tasks → State
state_with module_loaded patches moving tasks = record {
  loaded = true ∷ module_loaded ∷ [];
  world = record { installed = map installed patches; shadow = finite.empty };
  moving = moving;
  pinned = false ∷ false ∷ false ∷ false ∷ [];
  tasks = tasks;
}

abbrev pub in_kernel : ℤ → Option Task
in_kernel state = Some (record { state = state; mode = Kernel; frames = [] })

abbrev pub asleep_in : ℤ → List Version → Option Task
asleep_in state frames = Some (record { state = state; mode = Asleep; frames = frames })

-- which callbacks run: the patch, and the kind
abbrev pub ran_by : List Call → List (ℕ × Which)
ran_by calls = map {B = ℕ × Which} (λ (call : Call). (call.patch, call.which)) calls

abbrev pub in_user : ℤ → Option Task
in_user state = Some (record { state = state; mode = User; frames = [] })

-- a catalog with p, a patch that has a function only for the module, and r
abbrev pub module_kernel : Setting
module_kernel = record {
  image = kernel;
  patches = p ∷ record { replace = false; objects = quiet_object 1 (function_at 2 ∷ []) ∷ []; states = [] } ∷ r ∷ [];
}

abbrev pub making : Which → List Edit → Callback
making which edits = record { which = which; script = record { edits = edits; status = pos 0 } }

abbrev pub state_7 : SystemState
state_7 = record { id = 7; version = 1 }

-- a patch that names state 7, and a cumulative one whose pre-patch sets it to 3 and whose post-patch takes over the
-- older one's value
abbrev pub taking_over : Setting
taking_over = record {
  image = kernel;
  patches =
      record { replace = false; objects = []; states = state_7 ∷ [] }
      ∷ record {
        replace = true;
        objects = record { object = 0; functions = []; callbacks = making Pre (SetData 7 3 ∷ []) ∷ making Post (TakePrev 7 ∷ []) ∷ [] } ∷ [];
        states = state_7 ∷ [];
      } ∷ [];
}

-- a patch that names state 7, and a cumulative one that doesn't
abbrev pub lacking : Setting
lacking = record {
  image = kernel;
  patches = record { replace = false; objects = []; states = state_7 ∷ [] } ∷ record { replace = true; objects = []; states = [] } ∷ [];
}

abbrev pub with_state : ℕ → ℕ → Installed
with_state patch value = record { patch = patch; values = (7, value) ∷ [] }

abbrev pub with_states : List Installed → Option Transition → State
with_states patches moving = record {
  loaded = true ∷ false ∷ [];
  world = record { installed = patches; shadow = finite.empty };
  moving = moving;
  pinned = false ∷ false ∷ [];
  tasks = [];
}

-- a patch whose callback of this kind for the module may add this many variables
abbrev pub crowded_by : ℕ → Which → Setting
crowded_by count which = record {
  image = kernel;
  patches = record {
    replace = false;
    objects = record { object = 1; functions = []; callbacks = making which (replicate count (Alloc (record { obj = 1; id = 1 }) (to_le_bytes w64 0))) ∷ [] } ∷ [];
    states = [];
  } ∷ [];
}

-- a patch whose callback may add more variables than there is room for
abbrev pub crowded : Which → Setting
crowded which = crowded_by 513 which

-- a patch that names state 7, and a cumulative one that doesn't. The function of that one names no symbol of the
-- kernel or of the module, and its pre-patch may add more variables than there is room for
abbrev pub faulty : ℕ → Setting
faulty object = record {
  image = kernel;
  patches =
      record { replace = false; objects = []; states = state_7 ∷ [] }
      ∷ record {
        replace = true;
        objects = record {
          object = object;
          functions = record { site = None; address = 0 } ∷ [];
          callbacks = making Pre (replicate 513 (Alloc (record { obj = 1; id = 1 }) (to_le_bytes w64 0))) ∷ [];
        } ∷ [];
        states = [];
      } ∷ [];
}

-- one task, and no other
abbrev pub alone : Option Task → Tasks
alone task = task ∷ replicate 63 None
