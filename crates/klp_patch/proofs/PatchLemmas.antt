-- A patch comes to all sites, or leaves them.
use Rattle.std.proofs.Common.{◌≡◌, ℕ, ◌+◌, Bool, true, false, ◌&&◌, ◌||◌, List, length, map, refl, sym, ap, ◌∙◌, Option, Some, None}
use Rattle.std.specs.Prelude.{cond}
use Rattle.std.specs.Option.{is_some}
use Rattle.std.proofs.lemmas.List.{length-map}
use Rattle.klp_types.specs.Setting.{Function}
use Rattle.klp_catalog.specs.Catalog.{Catalog, CatalogFunction, setting_function}
use Rattle.klp_catalog.specs.States.{is_cumulative}
use Rattle.klp_stack.specs.Stack.{has_entry, entries_of_others}
use Rattle.klp_sites.specs.Table.{SiteTable}
use Rattle.klp_patch.specs.Covered.{functions_in}
use Rattle.klp_patch.specs.Changes.{most_entries}
use Rattle.klp_patch.proofs.SiteLemmas.{Entries, all_others}

pub most_is : (catalog : Catalog) (patch : ℕ) (table : SiteTable) (cumulative : Bool) → is_cumulative catalog patch ≡ cumulative
    → most_entries catalog patch table ≡ length (functions_in catalog patch) + cond cumulative (length table.stacks) 0
most_is catalog patch table cumulative is = ap (λ b. length (functions_in catalog patch) + cond b (length table.stacks) 0) is

-- a patch that isn't cumulative has entries where it has functions alone
pub only_functions : (covers : Bool) (patch : ℕ) (number : Option ℕ) (cumulative : Bool) (entries : Entries) → cumulative ≡ false
    → (covers ≡ true → has_entry patch entries ≡ true → (is_some number || cumulative) ≡ true)
    → cond (covers && is_some number) (entries_of_others patch entries) entries ≡ cond covers (entries_of_others patch entries) entries
only_functions false patch number cumulative entries is own = refl
only_functions true patch (Some number) cumulative entries is own = refl
only_functions true patch None cumulative entries is own = elim (has_entry patch entries) as (λ b. has_entry patch entries ≡ b → entries ≡ entries_of_others patch entries) [
  | true ↦ λ e. cc (own refl e)
  | false ↦ λ e. sym (all_others patch entries e)
] refl

-- a patch that isn't there has no entries
pub none_left : (covers : Bool) (patch : ℕ) (number : Option ℕ) (cumulative : Bool) (entries : Entries) → number ≡ None → cumulative ≡ false
    → (covers ≡ true → has_entry patch entries ≡ true → (is_some number || cumulative) ≡ true)
    → entries ≡ cond covers (entries_of_others patch entries) entries
none_left false patch number cumulative entries none is own = refl
none_left true patch number cumulative entries none is own = elim (has_entry patch entries) as (λ b. has_entry patch entries ≡ b → entries ≡ entries_of_others patch entries) [
  | true ↦ λ e. let no : (is_some number || cumulative) ≡ false = λ i. is_some (none i) || is i in cc (own refl e)
  | false ↦ λ e. sym (all_others patch entries e)
] refl

-- as many functions as are listed
pub listed_count : (functions : List CatalogFunction) (listed : List Function) → map setting_function functions ≡ listed → length functions ≡ length listed
listed_count functions listed same = sym (length-map functions setting_function) ∙ ap length same
