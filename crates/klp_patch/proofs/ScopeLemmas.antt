-- The sites of a patch's functions, as the changes for the functions before one leave them.
use Rattle.std.proofs.Common.{◌≡◌, ℕ, ◌<◌, Bool, false, ◌&&◌, Option, List, length, get_or, map, sym, ap, ◌∙◌}
use Rattle.std.specs.Option.{is_some}
use Rattle.std.proofs.lemmas.List.{length-map}
use Rattle.klp_types.specs.Setting.{Function, function_for, is_at}
use Rattle.klp_catalog.specs.Catalog.{CatalogFunction, setting_function, has_same_site}
use Rattle.klp_sites.specs.Table.{SiteTable}
use Rattle.klp_patch.specs.Covered.{is_covered}
use Rattle.klp_patch.specs.Changes.{AreMade}
use Rattle.klp_patch.proofs.SiteLemmas.{Entries}
use Rattle.klp_patch.proofs.MadeLemmas.{same_covered}
use Rattle.klp_patch.proofs.FunctionLemmas.{is_below, is_number, at_its_number, all_below}

module _ (functions : List CatalogFunction) (listed : List Function) (same : map setting_function functions ≡ listed) (i : ℕ) where
  -- the function of a number is meant at the site that has this number, whatever was changed before
  pub in_scope_here : (before now : SiteTable) (only : Option ℕ) (covers : ℕ → Bool) (make : ℕ → Entries → Entries) → AreMade before now covers make → has_same_site functions ≡ false → i < length functions
      → (function : CatalogFunction) → function ≡ get_or functions i function → (site : ℕ)
      → (is_covered now only site && is_at function.site site) ≡ (is_covered before only site && is_number (function_for listed site) i)
  in_scope_here before now only covers make so_far distinct below function is site =
      ap (λ b. b && is_at function.site site) (same_covered before now covers make only so_far site)
      ∙ ap (λ b. is_covered before only site && b)
      (ap (λ (f : CatalogFunction). is_at f.site site) is ∙ at_its_number functions i function site distinct below ∙ ap (λ (fs : List Function). is_number (function_for fs site) i) same)

  -- behind the last one, each site that has a function is done
  pub all_in_scope : i ≡ length functions → (site : ℕ) → is_below (function_for listed site) i ≡ is_some (function_for listed site)
  all_in_scope past site = ap (is_below (function_for listed site)) (past ∙ sym (length-map functions setting_function) ∙ ap (λ (fs : List Function). length fs) same) ∙ all_below listed site
