-- When a site has an entry.
use Rattle.std.proofs.Common.{◌≡◌, ℕ, Bool, true, false, not, ◌&&◌, List, [], reverse, refl, ◌∙◌}
use Rattle.std.specs.Prelude.{if◌then◌else◌}
use Rattle.std.specs.List.{list_any}
use Rattle.klp_types.specs.declared.version.Entry.{Entry}
use Rattle.klp_types.specs.Setting.{Setting}
use Rattle.klp_types.specs.Entries.{patches_site, entries_from, is_empty}
use Rattle.klp_types.proofs.EntryLemmas.{entries_from-any, list_any-reverse}
use Rattle.klp_model.specs.State.{State, installed_patches}
use Rattle.klp_model.specs.Entries.{is_hooked, is_site_loaded}

where_loaded : (loaded : Bool) (entries : List Entry) (any : Bool)
    → not (is_empty entries) ≡ any
    → not (is_empty (if loaded then entries else [])) ≡ (loaded && any)
where_loaded true entries any h = h
where_loaded false entries any h = refl

pub is_hooked-any : (setting : Setting) (state : State) (site : ℕ)
    → is_hooked setting state site ≡ (is_site_loaded setting state site && list_any (patches_site setting site) (installed_patches state))
is_hooked-any setting state site =
    where_loaded (is_site_loaded setting state site) (entries_from setting site (reverse (installed_patches state))) _
    (entries_from-any setting site (reverse (installed_patches state)) ∙ list_any-reverse (patches_site setting site) (installed_patches state))
