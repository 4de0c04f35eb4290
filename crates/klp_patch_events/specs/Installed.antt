-- The installed patches of an allowed state, in the form in which changes of sites need them.
use Rattle.std.specs.Prelude.{◌≡◌, ℕ, ◌<◌, ◌≤◌, List, length}
use Rattle.std.specs.List.{All, count_by}
use Rattle.klp_types.specs.declared.limits.TheConstants.{MAX_PATCHES, MAX_SITES}
use Rattle.klp_model.specs.Allowed.{AreDistinct}
use Rattle.klp_text.specs.TextImage.{site_count}
use Rattle.klp_modules.specs.Names.{names_of}
use Rattle.klp_catalog.specs.Catalog.{Catalog}
use Rattle.klp_catalog.specs.States.{is_cumulative}
use Rattle.klp_sites.specs.Table.{SiteTable}

-- patches of the catalog: each once, at most two of them cumulative, over an image with few sites and with the
-- catalog's names
pub record AreInstalled (catalog : Catalog) (sites : SiteTable) (patches : List ℕ) : Type 0 where
  pub numbers : All (λ p. p < MAX_PATCHES) patches
  pub few : length patches ≤ MAX_PATCHES
  pub distinct : AreDistinct patches
  pub replace : count_by (is_cumulative catalog) patches ≤ 2
  pub sites_are_few : site_count sites.image ≤ MAX_SITES
  pub names : catalog.names ≡ names_of sites.image.objects
