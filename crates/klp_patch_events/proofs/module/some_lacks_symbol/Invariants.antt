use Rattle.std.proofs.Common.{◌≡◌, false, ◌&&◌, take}
use Rattle.std.specs.Prelude.{◌==◌, is_none}
use Rattle.std.specs.List.{list_any}
use Rattle.klp_catalog.specs.Catalog.{CatalogFunction, catalog_functions}
use Rattle.klp_patch_events.proofs.module.some_lacks_symbol.Given as goal

abbrev pub invariant-loop-patch : goal.invariant-loop-patch
invariant-loop-patch g l =
    list_any (λ patch. list_any (λ (f : CatalogFunction). f.object == l.object && is_none f.site) (catalog_functions l.catalog patch)) (take l.patch-index l.patches) ≡ false
