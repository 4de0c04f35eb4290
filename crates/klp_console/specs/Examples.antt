-- A small kernel with patches, as the console sees it.
use Rattle.std.specs.Prelude.{ℕ, pos, true, false, List, [], ◌∷◌, codes, Some, None}
use Rattle.std.specs.FinMap as finite
use Rattle.klp_types.specs.declared.callback.Which.{Which}
use Rattle.klp_types.specs.declared.callback.Which.TheVariants.{Pre, Post, PreUn, PostUn}
use Rattle.klp_types.specs.declared.task.Mode.TheVariants.{Kernel}
use Rattle.klp_types.specs.Image.{Symbol, Image}
use Rattle.klp_types.specs.Setting.{Callback}
use Rattle.klp_model.specs.State.{State}
use Rattle.klp_modules.specs.Names.{names_of}
use Rattle.klp_catalog_text.specs.Plan.{PlanFunction, PlanTarget}
use Rattle.klp_catalog.specs.Catalog.{Catalog}
use Rattle.klp_core.specs.Journaled.{Journaled}

abbrev pub symbol : List ℕ → ℕ → List ℕ → Symbol
symbol name address behind = record { name = name; address = address; body = 0xe8 ∷ 0 ∷ 0 ∷ 0 ∷ 0 ∷ behind }

-- `vmlinux` with f, h and two of the name d, and a module with g
abbrev pub kernel : Image
kernel = record {
  handler = 0xffff_ffff_8100_0000;
  objects =
      record {
        name = codes "vmlinux";
        symbols =
            symbol (codes "f") 0xffff_ffff_8100_1000 (0x90 ∷ 0xc3 ∷ []) ∷ symbol (codes "h") 0xffff_ffff_8100_2000 (0xc3 ∷ [])
            ∷ symbol (codes "d") 0xffff_ffff_8100_3000 (0xc3 ∷ []) ∷ symbol (codes "d") 0xffff_ffff_8100_4000 (0xc3 ∷ []) ∷ [];
      }
      ∷ record { name = codes "m"; symbols = symbol (codes "g") 0xffff_ffff_a000_0000 (0xc3 ∷ []) ∷ [] } ∷ [];
}

abbrev pub function : List ℕ → ℕ → List ℕ → ℕ → PlanFunction
function symbol sympos new_name address = record { symbol = symbol; sympos = sympos; new_name = new_name; address = address }

-- a callback that changes nothing and succeeds
abbrev pub quiet : Which → Callback
quiet which = record { which = which; script = record { edits = []; status = pos 0 } }

abbrev pub target : ℕ → List PlanFunction → List Callback → PlanTarget
target object functions callbacks = record { object = object; functions = functions; callbacks = callbacks }

-- p patches f and h, with all four callbacks, and g, with two; c is cumulative and patches f; s patches the second d
abbrev pub catalog : Catalog
catalog = record {
  names = names_of kernel.objects;
  patches =
      record {
        name = codes "p";
        replace = false;
        targets =
            target 0 (function (codes "f") 0 (codes "f_p") 0xffff_ffff_c000_1000 ∷ function (codes "h") 0 (codes "h_p") 0xffff_ffff_c000_1100 ∷ []) (quiet Pre ∷ quiet Post ∷ quiet PreUn ∷ quiet PostUn ∷ [])
            ∷ target 1 (function (codes "g") 0 (codes "g_p") 0xffff_ffff_c000_1200 ∷ []) (quiet Pre ∷ quiet Post ∷ []) ∷ [];
        states = [];
      }
      ∷ record { name = codes "c"; replace = true; targets = target 0 (function (codes "f") 0 (codes "f_c") 0xffff_ffff_c000_3000 ∷ []) [] ∷ []; states = [] }
      ∷ record { name = codes "s"; replace = false; targets = target 0 (function (codes "d") 2 (codes "d_s") 0xffff_ffff_c000_7000 ∷ []) [] ∷ []; states = [] } ∷ [];
  runs = 1 ∷ 2 ∷ 3 ∷ 0 ∷ 4 ∷ 5 ∷ [];
}

-- p is installed and c moves in; the module isn't loaded, and task 1 doesn't run c
abbrev pub state : State
state = record {
  loaded = true ∷ false ∷ [];
  world = record { installed = record { patch = 0; values = [] } ∷ record { patch = 1; values = [] } ∷ []; shadow = finite.empty };
  moving = Some (record { patch = 1; target = true });
  pinned = false ∷ false ∷ false ∷ [];
  tasks = None ∷ Some (record { state = pos 0; mode = Kernel; frames = [] }) ∷ [];
}

-- the manager of this kernel in this state
abbrev pub manager : Journaled
manager = record { managed = record { image = kernel; catalog = catalog; state = state }; base = state; groups = [] }
