-- A small kernel with patches, over which the definitions are computed.
use Rattle.std.specs.Prelude.{ℕ, ℤ, pos, negsuc, true, false, List, [], ◌∷◌, ◌==◌, map, Some, if◌then◌else◌}
use Rattle.std.specs.List.{enumerate_from}
use Rattle.std.specs.FinMap as finite
use Rattle.klp_types.specs.declared.callback.Which.{Which}
use Rattle.klp_types.specs.declared.callback.Which.TheVariants.{Pre, Post, PreUn, PostUn}
use Rattle.klp_types.specs.declared.edit.Edit.{Edit}
use Rattle.klp_types.specs.declared.shadow.ShadowKey.{ShadowKey}
use Rattle.klp_types.specs.Compatible.{SystemState}
use Rattle.klp_types.specs.Image.{Symbol, Image}
use Rattle.klp_types.specs.Script.{Script}
use Rattle.klp_types.specs.World.{Installed, World}
use Rattle.klp_types.specs.Setting.{Callback, PatchObject, Patch, Setting, objects_of}
use Rattle.klp_types.specs.Callbacks.{Call}

-- f and h of the kernel (sites 0 and 1), and g of a module (site 2); their names don't matter
abbrev pub f : Symbol
f = record { name = 102 ∷ []; address = 0xffff_ffff_8100_1000; body = 232 ∷ 0 ∷ 0 ∷ 0 ∷ 0 ∷ 144 ∷ 195 ∷ [] }

abbrev pub h : Symbol
h = record { name = 104 ∷ []; address = 0xffff_ffff_8100_2000; body = 232 ∷ 0 ∷ 0 ∷ 0 ∷ 0 ∷ 195 ∷ [] }

abbrev pub g : Symbol
g = record { name = 103 ∷ []; address = 0xffff_ffff_a000_0000; body = 232 ∷ 0 ∷ 0 ∷ 0 ∷ 0 ∷ 195 ∷ [] }

abbrev pub kernel : Image
kernel = record {
  handler = 0xffff_ffff_8100_0000;
  objects = record { name = []; symbols = f ∷ h ∷ [] } ∷ record { name = 109 ∷ []; symbols = g ∷ [] } ∷ [];
}

-- p has a function for each site; c is a cumulative patch with a function only for f
abbrev pub p : Patch
p = record {
  replace = false;
  objects =
      record { object = 0; functions = record { site = Some 0; address = 0xffff_ffff_c000_1000 } ∷ record { site = Some 1; address = 0xffff_ffff_c000_1100 } ∷ []; callbacks = [] }
      ∷ record { object = 1; functions = record { site = Some 2; address = 0xffff_ffff_c000_1200 } ∷ []; callbacks = [] } ∷ [];
  states = [];
}

abbrev pub c : Patch
c = record {
  replace = true;
  objects = record { object = 0; functions = record { site = Some 0; address = 0xffff_ffff_c000_3000 } ∷ []; callbacks = [] } ∷ [];
  states = [];
}

abbrev pub patched_kernel : Setting
patched_kernel = record { image = kernel; patches = p ∷ c ∷ [] }

-- a function that begins with ENDBR64, and a kernel that has only this function
abbrev pub tracked : Symbol
tracked = record {
  name = 101 ∷ [];
  address = 0xffff_ffff_8100_5000;
  body = 0xf3 ∷ 0x0f ∷ 0x1e ∷ 0xfa ∷ 0xe8 ∷ 0x00 ∷ 0x00 ∷ 0x00 ∷ 0x00 ∷ 0x90 ∷ 0xc3 ∷ [];
}

abbrev pub tracked_kernel : Setting
tracked_kernel = record {
  image = record { handler = 0xffff_ffff_8100_0000; objects = record { name = []; symbols = tracked ∷ [] } ∷ [] };
  patches = [];
}

-- a script without edits that has this status
abbrev pub answering : ℤ → Script
answering status = record { edits = []; status = status }

-- all four callbacks of an object; pre-patch refuses if the object has the number `refusing`
abbrev pub callbacks_for : ℕ → ℕ → List Callback
callbacks_for refusing object =
    record { which = PostUn; script = answering (pos 0) } ∷ record { which = Pre; script = answering (if object == refusing then negsuc 11 else pos 0) }
    ∷ record { which = PreUn; script = answering (pos 0) } ∷ record { which = Post; script = answering (pos 0) } ∷ []

abbrev pub object_with : ℕ → ℕ → PatchObject
object_with refusing object = record { object = object; functions = []; callbacks = callbacks_for refusing object }

-- three objects, which a patch names in the order 2, 0, 1; its pre-patch refuses in the object with this number
abbrev pub refusing_in : ℕ → Setting
refusing_in object = record {
  image = record { handler = 0; objects = record { name = []; symbols = [] } ∷ record { name = []; symbols = [] } ∷ record { name = []; symbols = [] } ∷ [] };
  patches = record { replace = false; objects = object_with object 2 ∷ object_with object 0 ∷ object_with object 1 ∷ []; states = [] } ∷ [];
}

-- the patch's objects, each with its index
abbrev pub objects_refusing_in : ℕ → List (ℕ × PatchObject)
objects_refusing_in object = enumerate_from 0 (objects_of (refusing_in object) 0)

-- which callbacks run: the index of the object in the patch, and the kind
abbrev pub ran : List Call → List (ℕ × Which)
ran calls = map {B = ℕ × Which} (λ (call : Call). (call.place, call.which)) calls

-- an object that has only this callback
abbrev pub object_calling : Which → ℤ → PatchObject
object_calling which status = record { object = 0; functions = []; callbacks = record { which = which; script = answering status } ∷ [] }

abbrev pub object_without_callbacks : PatchObject
object_without_callbacks = record { object = 0; functions = []; callbacks = [] }

-- a script that makes these edits and succeeds
abbrev pub editing : List Edit → Script
editing edits = record { edits = edits; status = pos 0 }

abbrev pub refusing : List Edit → Script
refusing edits = record { edits = edits; status = pos 1 }

abbrev pub call_by : ℕ → List Edit → Call
call_by patch edits = record { patch = patch; place = 9; which = Pre; script = editing edits }

abbrev pub key_of : ℕ → ℕ → ShadowKey
key_of obj id = record { obj = obj; id = id }

-- the patches 4, 5, 6 and 3 are installed, oldest first: all but 6 name the state 7, and 5 and 6 name the state 8
abbrev pub patch_4 : Installed
patch_4 = record { patch = 4; values = (7, 40) ∷ [] }

abbrev pub patch_5 : Installed
patch_5 = record { patch = 5; values = (7, 50) ∷ (8, 58) ∷ [] }

abbrev pub patch_6 : Installed
patch_6 = record { patch = 6; values = (8, 68) ∷ [] }

abbrev pub patch_3 : ℕ → Installed
patch_3 value = record { patch = 3; values = (7, value) ∷ [] }

abbrev pub world_of : List Installed → World
world_of installed = record { installed = installed; shadow = finite.empty }

abbrev pub four_installed : World
four_installed = world_of (patch_4 ∷ patch_5 ∷ patch_6 ∷ patch_3 30 ∷ [])

abbrev pub state_of : ℕ → ℕ → SystemState
state_of id version = record { id = id; version = version }

-- a patch that names no state, and a cumulative one that names 7 and 9
abbrev pub naming_kernel : Setting
naming_kernel = record {
  image = kernel;
  patches = record { replace = false; objects = []; states = [] } ∷ record { replace = true; objects = []; states = state_of 7 1 ∷ state_of 9 2 ∷ [] } ∷ [];
}
