-- Texts of catalogs with their plans, and drafts that are at a limit.
use Rattle.std.specs.Prelude.{ℕ, pos, negsuc, true, false, List, [], ◌∷◌, ◌++◌, replicate, codes, Some, None}
use Rattle.klp_types.specs.declared.callback.Which.TheVariants.{Pre, Post, PostUn}
use Rattle.klp_types.specs.declared.edit.Edit.TheVariants.{Alloc, Free}
use Rattle.klp_types.specs.Image.{Symbol}
use Rattle.klp_types.specs.Script.{Script}
use Rattle.klp_catalog_text.specs.Plan.{PlanFunction, PlanTarget, PlanPatch, Plan}
use Rattle.klp_catalog_text.specs.Draft.{Draft}

-- one patch with one function
abbrev pub small_text : List ℕ
small_text =
    codes "handler ffffffff81000000\nobject vmlinux\nsymbol f ffffffff81001000 e80000000090c3\npatch p\ntarget vmlinux\nfunc .klp.sym.vmlinux.f,0 f_p ffffffffc0001000\n"

abbrev pub f : Symbol
f = record { name = codes "f"; address = 0xffff_ffff_8100_1000; body = 0xe8 ∷ 0 ∷ 0 ∷ 0 ∷ 0 ∷ 0x90 ∷ 0xc3 ∷ [] }

abbrev pub f_p : PlanFunction
f_p = record { symbol = codes "f"; sympos = 0; new_name = codes "f_p"; address = 0xffff_ffff_c000_1000 }

abbrev pub small_plan : Plan
small_plan = record {
  handler = 0xffff_ffff_8100_0000;
  objects = record { name = codes "vmlinux"; symbols = f ∷ [] } ∷ [];
  patches = record { name = codes "p"; replace = false; targets = record { object = 0; functions = f_p ∷ []; callbacks = [] } ∷ []; states = [] } ∷ [];
}

-- a module, a cumulative patch that names a state, callbacks; with comments, empty lines, tabs and carriage returns
abbrev pub longer_text : List ℕ
longer_text =
    codes "# a test\n\nobject vmlinux\r\nsymbol f ffffffff81001000 e80000000090c3\nobject m\n\tsymbol  g\t10 c3\nhandler ffffffff81000000\npatch p replace\nstate 7 2\ntarget m\nfunc .klp.sym.m.g,1 g_p 20\npre 0 alloc:1:9:5 free:2:1\npost 0\ntarget vmlinux\npostun -16\npatch q"

abbrev pub longer_plan : Plan
longer_plan = record {
  handler = 0xffff_ffff_8100_0000;
  objects = record { name = codes "vmlinux"; symbols = f ∷ [] } ∷ record { name = codes "m"; symbols = record { name = codes "g"; address = 16; body = 0xc3 ∷ [] } ∷ [] } ∷ [];
  patches =
      record {
        name = codes "p";
        replace = true;
        targets =
            record {
              object = 1;
              functions = record { symbol = codes "g"; sympos = 1; new_name = codes "g_p"; address = 32 } ∷ [];
              callbacks = record {
                which = Pre;
                script = record { edits = Alloc (record { obj = 1; id = 9 }) (5 ∷ 0 ∷ 0 ∷ 0 ∷ 0 ∷ 0 ∷ 0 ∷ 0 ∷ []) ∷ Free (record { obj = 2; id = 1 }) ∷ []; status = pos 0 };
              } ∷ record { which = Post; script = record { edits = []; status = pos 0 } } ∷ [];
            }
            ∷ record { object = 0; functions = []; callbacks = record { which = PostUn; script = record { edits = []; status = negsuc 15 } } ∷ [] } ∷ [];
        states = record { id = 7; version = 2 } ∷ [];
      }
      ∷ record { name = codes "q"; replace = false; targets = []; states = [] } ∷ [];
}

-- a draft with a handler, the object `vmlinux` with the symbol f, and these patches
abbrev pub draft_with : List PlanPatch → Draft
draft_with patches = record { handler = Some 0; objects = record { name = codes "vmlinux"; symbols = f ∷ [] } ∷ []; patches = patches }

abbrev pub patch_with : List PlanTarget → PlanPatch
patch_with targets = record { name = codes "p"; replace = false; targets = targets; states = record { id = 7; version = 2 } ∷ [] }

abbrev pub target_with : List PlanFunction → PlanTarget
target_with functions = record { object = 0; functions = functions; callbacks = record { which = Pre; script = record { edits = []; status = pos 0 } } ∷ [] }

-- a draft with this many objects and one more, which has this many symbols
abbrev pub draft_of : ℕ → ℕ → Draft
draft_of objects symbols =
    record { handler = None; objects = replicate objects (record { name = codes "a"; symbols = [] }) ++ record { name = codes "b"; symbols = replicate symbols f } ∷ []; patches = [] }

abbrev pub script_with : ℕ → Script
script_with count = record { edits = replicate count (Free (record { obj = 1; id = 2 })); status = pos 0 }

abbrev pub another_patch : PlanPatch
another_patch = record { name = codes "q"; replace = false; targets = []; states = [] }
