-- A small kernel, and observed runs of it.
use Rattle.std.specs.Prelude.{ℕ, ℤ, pos, negsuc, Bool, true, false, List, [], ◌∷◌, map, replicate, Option, Some, None}
use Rattle.std.specs.FinMap as finite
use Rattle.klp_types.specs.declared.version.Version.{Version}
use Rattle.klp_types.specs.declared.version.Version.TheVariants.{Original}
use Rattle.klp_types.specs.declared.version.Transition.{Transition}
use Rattle.klp_types.specs.Image.{Symbol}
use Rattle.klp_types.specs.Setting.{Setting, Function, PatchObject}
use Rattle.klp_types.specs.declared.task.Mode.{Mode}
use Rattle.klp_types.specs.declared.task.Mode.TheVariants.{Kernel}
use Rattle.klp_model.specs.declared.event.Event.TheVariants.{Enable, Poll, Coming, Going, NewTask, EnterKernel, ExitToUser, Sleep, Wake}
use Rattle.klp_types.specs.declared.task.Task.{Task}
use Rattle.klp_model.specs.State.{State}
use Rattle.klp_model.specs.declared.seen.Seen.{Seen}
use Rattle.klp_model.specs.declared.seen.Seen.TheVariants.{Event as Happens, Call as Calls, Return as Returns}
use Rattle.klp_model.specs.Observed.{Stacks, with_frames, Watched}

abbrev symbol : ℕ → Symbol
symbol address = record { name = []; address = address; body = 1 ∷ 2 ∷ 3 ∷ 4 ∷ 5 ∷ [] }

abbrev function_for : ℕ → Function
function_for site = record { site = Some site; address = 0 }

abbrev for_object : ℕ → List Function → PatchObject
for_object object functions = record { object = object; functions = functions; callbacks = [] }

-- `vmlinux` with the sites 0 and 1, a module with the site 2, and one patch with these objects
abbrev kernel_with : List PatchObject → Setting
kernel_with objects = record {
  image = record {
    handler = 0;
    objects = record { name = []; symbols = symbol 0 ∷ symbol 16 ∷ [] } ∷ record { name = []; symbols = symbol 64 ∷ [] } ∷ [];
  };
  patches = record { replace = false; objects = objects; states = [] } ∷ [];
}

-- the patch has a function for each site, each listed with the object of the site
abbrev pub kernel : Setting
kernel = kernel_with (for_object 0 (function_for 0 ∷ function_for 1 ∷ []) ∷ for_object 1 (function_for 2 ∷ []) ∷ [])

-- the patch has a function for the module's site, but it is listed with `vmlinux`
abbrev pub stray_kernel : Setting
stray_kernel = kernel_with (for_object 0 (function_for 2 ∷ []) ∷ [])

abbrev with_one : Option Task → List (Option Task)
with_one task = None ∷ task ∷ replicate 62 None

abbrev pub nobody : List (Option Task)
nobody = with_one None

-- only task 1 exists
abbrev pub one_task : Mode → ℤ → List Version → List (Option Task)
one_task mode state frames = with_one (Some (record { state = state; mode = mode; frames = frames }))

abbrev pub state_of : Bool → List ℕ → Option Transition → List (Option Task) → State
state_of with_module patches moving tasks = record {
  loaded = true ∷ with_module ∷ [];
  world = record { installed = map (λ p. record { patch = p; values = [] }) patches; shadow = finite.empty };
  moving = moving;
  pinned = false ∷ [];
  tasks = tasks;
}

abbrev pub towards_1 : Option Transition
towards_1 = Some (record { patch = 0; target = true })

abbrev pub no_frames : Stacks
no_frames = λ n. []

abbrev pub inside : ℕ → Version → Stacks
inside site version = with_frames (with_frames no_frames 1 []) 1 (record { site = site; version = version } ∷ [])

abbrev pub watched : State → Stacks → Watched
watched state stacks = record { state = state; stacks = stacks }

abbrev pub start : State
start = state_of false [] None nobody

-- the frames of a sleeper in the original of site 0
abbrev pub in_original : List Version
in_original = Original 0 ∷ []

-- task 1 runs in the kernel inside of the original, in a transition to target 1
abbrev pub late : Watched
late = watched (state_of false (0 ∷ []) towards_1 (one_task Kernel (pos 0) [])) (inside 0 (Original 0))

-- a task falls asleep in the original, the patch is enabled, and the task leaves the kernel before the transition
-- completes
abbrev pub sleeper_run : List Seen
sleeper_run =
    Happens (NewTask 1) ∷ Happens (EnterKernel 1) ∷ Calls 1 0 ∷ Happens (Sleep 1 in_original) ∷ Happens (Enable 0) ∷ Happens Poll ∷ Happens (Wake 1) ∷ Returns 1
    ∷ Happens (ExitToUser 1) ∷ Happens Poll ∷ []

-- the module is loaded, a task calls the patch's function there, and the module is unloaded
abbrev pub stray_run : List Seen
stray_run = Happens (Enable 0) ∷ Happens (Coming 1) ∷ Happens (NewTask 1) ∷ Happens (EnterKernel 1) ∷ Calls 1 2 ∷ Happens (Going 1) ∷ []

-- a task runs in the module's original function, so that unloading the module isn't honest
abbrev pub under_a_task : Watched
under_a_task = watched (state_of true [] None (one_task Kernel (negsuc 0) [])) (inside 2 (Original 2))

-- task 1 is inside of these versions at the sites 0 and 1
abbrev pub inside_both : Version → Version → Stacks
inside_both outer inner = with_frames no_frames 1 (record { site = 0; version = outer } ∷ record { site = 1; version = inner } ∷ [])

-- task 1 is in the kernel while the patch is being enabled
abbrev pub moving_in : ℤ → Stacks → Watched
moving_in state stacks = watched (state_of false (0 ∷ []) towards_1 (one_task Kernel state [])) stacks

-- nothing is installed
abbrev pub unpatched : Mode → Stacks → Watched
unpatched mode stacks = watched (state_of false [] None (one_task mode (negsuc 0) [])) stacks

-- the second function that the second patch lists with `vmlinux` is for the module's site
abbrev pub stray_behind : Setting
stray_behind = record stray_kernel {
  patches =
      record { replace = false; objects = for_object 0 (function_for 0 ∷ []) ∷ []; states = [] }
      ∷ record { replace = false; objects = for_object 1 (function_for 2 ∷ []) ∷ for_object 0 (function_for 1 ∷ function_for 2 ∷ []) ∷ []; states = [] } ∷ [];
}
