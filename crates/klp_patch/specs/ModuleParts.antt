-- The parts of patches that change a module.
use Rattle.std.specs.Prelude.{ℕ, ◌==◌, List}
use Rattle.std.specs.List.{filter, enumerate_from, flat_map}
use Rattle.klp_types.specs.Setting.{PatchObject}
use Rattle.klp_model.specs.ModuleCalls.{Part, parts_among}
use Rattle.klp_catalog.specs.Catalog.{Catalog}
use Rattle.klp_catalog.specs.Runs.{objects_at}

-- the part of a patch that changes this object, if it has one
abbrev pub parts_at : Catalog → ℕ → ℕ → List Part
parts_at catalog object patch =
    parts_among patch (filter (λ (o : ℕ × PatchObject). o.1.object == object) (enumerate_from 0 (objects_at catalog patch)))

-- the parts of these patches that change this object, in the order of the patches
abbrev pub parts_in : Catalog → ℕ → List ℕ → List Part
parts_in catalog object patches = flat_map (parts_at catalog object) patches
