use Rattle.std.specs.Prelude.{◌≡◌, false, is_none, slice_index_or, ◌&&◌, drop}
use Rattle.std.specs.List.{list_any}
use Rattle.klp_catalog.specs.Catalog.{CatalogFunction}
use Rattle.klp_patch_events.proofs.enabling.lacks_symbol.Given as goal

-- none of those so far lacks its site
abbrev pub invariant-loop-function : goal.invariant-loop-function
invariant-loop-function l =
    list_any (λ (f : CatalogFunction). slice_index_or l.state.modules.loaded f.object false && is_none f.site) (drop l.function-index l.found.functions)
    ≡ list_any (λ (f : CatalogFunction). slice_index_or l.state.modules.loaded f.object false && is_none f.site) l.found.functions
