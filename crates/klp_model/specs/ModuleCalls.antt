-- The callbacks that run when a module is loaded or unloaded: patch by patch, oldest first.
use Rattle.std.specs.Prelude.{ℕ, Bool, ◌==◌, List, [], ◌∷◌, ◌++◌, Option, Some, None, if◌then◌else◌}
use Rattle.std.specs.List.{filter, find, enumerate_from, flat_map}
use Rattle.klp_types.specs.declared.callback.Which.{Which}
use Rattle.klp_types.specs.declared.callback.Which.TheVariants.{Pre, Post, PreUn, PostUn}
use Rattle.klp_types.specs.declared.version.Transition.{Transition}
use Rattle.klp_types.specs.Setting.{Setting, PatchObject, objects_of}
use Rattle.klp_model.specs.State.{State, installed_patches}
use Rattle.klp_types.specs.Pick.{moves}
use Rattle.klp_types.specs.Callbacks.{Call, call_of, script_for, refuses}

-- the part of an installed patch for a module: the patch, and its object with its index
abbrev pub Part : Type 0
Part = ℕ × (ℕ × PatchObject)

abbrev pub parts_among : ℕ → List (ℕ × PatchObject) → List Part
parts_among patch [] = []
parts_among patch (object ∷ objects) = (patch, object) ∷ parts_among patch objects

abbrev pub parts_of : Setting → ℕ → ℕ → List Part
parts_of setting object patch =
    parts_among patch (filter (λ (o : ℕ × PatchObject). o.1.object == object) (enumerate_from 0 (objects_of setting patch)))

-- the parts of the installed patches for a module, oldest first
abbrev pub parts : Setting → State → ℕ → List Part
parts setting state object = flat_map (parts_of setting object) (installed_patches state)

abbrev pub part_call : Which → Part → List Call
part_call which part = call_of part.0 part.1.0 which (script_for which part.1.1.callbacks)

-- a callback that doesn't run if the patch is in transition
abbrev pub still_call : Option Transition → Which → Part → List Call
still_call moving which part = if moves moving part.0 then [] else part_call which part

-- when the module is loaded: pre-patch, and post-patch unless the patch is in transition
abbrev pub part_coming : Option Transition → Part → List Call
part_coming moving part = part_call Pre part ++ still_call moving Post part

-- when the module is unloaded or cleaned up: pre-unpatch unless the patch is in transition, and post-unpatch
abbrev pub part_going : Option Transition → Part → List Call
part_going moving part = still_call moving PreUn part ++ part_call PostUn part

abbrev pub part_refuses : Part → Bool
part_refuses part = refuses part.1

abbrev pub parts_before : List Part → List Part
parts_before [] = []
parts_before (part ∷ parts) = if part_refuses part then [] else part ∷ parts_before parts

-- the pre-patch that refused, and then the clean-up of the patches before it
abbrev pub refused_parts : Option Transition → List Part → Option Part → List Call
refused_parts moving before None = []
refused_parts moving before (Some part) = part_call Pre part ++ flat_map (part_going moving) before

abbrev pub coming_calls : Option Transition → List Part → List Call
coming_calls moving parts =
    flat_map (part_coming moving) (parts_before parts) ++ refused_parts moving (parts_before parts) (find part_refuses parts)

abbrev pub going_calls : Option Transition → List Part → List Call
going_calls moving parts = flat_map (part_going moving) parts
