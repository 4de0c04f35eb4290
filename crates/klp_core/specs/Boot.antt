-- What a manager needs to boot.
use Rattle.std.specs.Prelude.{◌≡◌, ℕ, ◌⊎◌, List, [], map, length}
use Rattle.klp_types.specs.Image.{Object, Image}
use Rattle.klp_modules.specs.Names.{ObjectNames, ModuleTable, names_of}
use Rattle.klp_model.specs.Opening.{opening_state}
use Rattle.klp_catalog.specs.Catalog.{Catalog, patches_of}
use Rattle.klp_core.specs.Journaled.{Journaled}
use Rattle.klp_core.specs.declared.fault.BootFault.{BootFault}
use Rattle.klp_core.specs.declared.fault.BootFault.TheVariants.{Mismatch, NoMemory}

-- how many symbols each object has
abbrev pub symbol_counts : List Object → List ℕ
symbol_counts objects = map (λ (o : Object). length o.symbols) objects

-- how many symbols each object has, by the table of names
abbrev pub name_counts : List ObjectNames → List ℕ
name_counts names = map (λ (o : ObjectNames). length o.symbols) names

-- image, modules and catalog have the same number of objects, and of symbols in each
pub record IsMatch (image : Image) (modules : ModuleTable) (catalog : Catalog) : Type 0 where
  pub modules_match : name_counts modules.names ≡ symbol_counts image.objects
  pub catalog_matches : name_counts catalog.names ≡ symbol_counts image.objects

-- The modules have the image's names, in the same order, and the catalog was assembled over the same names.
pub record AreNamed (image : Image) (modules : ModuleTable) (catalog : Catalog) : Type 0 where
  pub modules_named : modules.names ≡ names_of image.objects
  pub catalog_named : catalog.names ≡ names_of image.objects

-- a manager that has just been booted: no event was taken, and its base is its state
abbrev pub booted : Image → Catalog → Journaled
booted image catalog = record {
  managed = record { image = image; catalog = catalog; state = opening_state (record { image = image; patches = patches_of catalog }) };
  base = opening_state (record { image = image; patches = patches_of catalog });
  groups = [];
}

-- the three don't match, or they match and memory ran out
abbrev pub IsFaultOf : Image → ModuleTable → Catalog → BootFault → Type 0
IsFaultOf image modules catalog fault =
    ((IsMatch image modules catalog → ⊥) × (fault ≡ Mismatch)) ⊎ (IsMatch image modules catalog × (fault ≡ NoMemory))
