-- The objects of a patch that are loaded.
use Rattle.std.specs.Prelude.{ℕ, Bool, false, List, map, filter, slice_index_or}
use Rattle.std.specs.List.{enumerate_from}
use Rattle.klp_types.specs.Setting.{PatchObject}
use Rattle.klp_types.specs.World.{Installed, World}
use Rattle.klp_modules.specs.Names.{ModuleTable}
use Rattle.klp_catalog.specs.Catalog.{Catalog}
use Rattle.klp_catalog.specs.Runs.{objects_at}

-- whether the object is loaded; an object without a flag isn't
abbrev pub is_loaded_in : ModuleTable → ℕ → Bool
is_loaded_in modules object = slice_index_or modules.loaded object false

-- the numbers of the installed patches, oldest first
abbrev pub patches_in : World → List ℕ
patches_in world = map (λ (i : Installed). i.patch) world.installed

-- the loaded ones of these objects, each with its place; the first of the objects has the place `place`
abbrev pub loaded_from : (ℕ → Bool) → ℕ → List PatchObject → List (ℕ × PatchObject)
loaded_from loaded place objects = filter (λ (o : ℕ × PatchObject). loaded o.1.object) (enumerate_from place objects)

-- the objects of a patch that are loaded, each with its place among the patch's objects
abbrev pub loaded_in : Catalog → ModuleTable → ℕ → List (ℕ × PatchObject)
loaded_in catalog modules patch = loaded_from (is_loaded_in modules) 0 (objects_at catalog patch)
