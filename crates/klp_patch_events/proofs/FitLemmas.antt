-- There is room for the entries of all states that events can lead to.
use Rattle.std.proofs.Common.{◌≡◌, ℕ, ◌<◌, ◌≤◌, Bool, true, false, List, [], ◌∷◌, ◌++◌, length, reverse, Option, Some, None, is_some, refl, sym, ap, subst, ◌∙◌, arith, length-append}
use Rattle.std.specs.Prelude.{if◌then◌else◌}
use Rattle.klp_types.specs.declared.limits.TheConstants.{MAX_PATCHES, MAX_SITES}
use Rattle.klp_types.specs.declared.version.Entry.{Entry}
use Rattle.klp_types.specs.declared.version.Transition.{Transition}
use Rattle.klp_types.specs.Image.{object_of}
use Rattle.klp_types.specs.Setting.{Setting}
use Rattle.klp_types.specs.Entries.{entries_from}
use Rattle.klp_model.specs.Allowed.{AreStacked}
use Rattle.klp_model.specs.State.{State, installed_patches}
use Rattle.klp_model.specs.Entries.{is_site_loaded}
use Rattle.klp_model.proofs.OrderLemmas.{stacked_put}
use Rattle.klp_catalog.specs.Catalog.{Catalog, patches_of}
use Rattle.klp_catalog.specs.Limits.{AreWithin}
use Rattle.klp_stack.specs.Stack.{entries_at}
use Rattle.klp_sites.specs.Table.{SiteTable}
use Rattle.klp_patch.specs.Changes.{with_entry}
use Rattle.klp_patch.specs.Covered.{is_covered}
use Rattle.klp_patch.specs.Room.{FindRoom, HasRoom}
use Rattle.klp_manager_state.specs.declared.state.ManagerState.{ManagerState}
use Rattle.klp_manager_state.specs.Invariant.{Invariant}
use Rattle.klp_manager_state.specs.Managed.{setting_in, state_in}
use Rattle.klp_patch_events.proofs.CountLemmas.{all_fit, few_functions}
use Rattle.klp_patch_events.proofs.EntryLemmas.{OnTop, on_top, loaded_in_scope}
use Rattle.klp_patch_events.proofs.ModuleLemmas.{setting_with, all_have_room}

still_none : (moving : Option Transition) → is_some moving ≡ false → moving ≡ None
still_none None still = refl
still_none (Some move) still = let no : ⊥ = cc in absurd no

no_more : (loaded : Bool) (entries : List Entry) → length (if loaded then entries else []) ≤ length entries
no_more true entries = omega arith
no_more false entries = omega arith

module _ (parts : ManagerState) (catalog : Catalog) (holds : Invariant parts catalog) (small : AreWithin catalog.patches) (sites : length parts.sites.stacks ≤ MAX_SITES) where
  abbrev setting : Setting
  setting = setting_in parts catalog

  abbrev state : State
  state = state_in parts catalog

  abbrev installed : List ℕ
  installed = installed_patches state

  -- the entries of a state
  pub state_fits : length installed ≤ MAX_PATCHES → FindRoom (λ site. entries_from setting site (reverse installed)) (length parts.sites.stacks)
  state_fits few = all_fit setting state.moving installed (length parts.sites.stacks) (few_functions parts.sites.image catalog small) sites holds.allowed.stacked few

  -- a patch is put last, while nothing moves
  pub enable_fits : OnTop → (patch : ℕ) → is_some state.moving ≡ false → length installed < MAX_PATCHES → HasRoom parts.sites (is_covered parts.sites None) (with_entry catalog patch)
  enable_fits top patch still few =
      let more : List ℕ = installed ++ patch ∷ [] in
      let stacked = stacked_put setting patch true installed (subst (λ m. AreStacked setting m installed) (still_none state.moving still) holds.allowed.stacked) in
      let fits = all_fit setting (Some (record { patch = patch; target = true })) more (length parts.sites.stacks) (few_functions parts.sites.image catalog small) sites stacked
      (omega (arith, length-append installed (patch ∷ []), few))
      in
      all_have_room setting more parts.sites (is_covered parts.sites None) (with_entry catalog patch)
      (λ site.
      let loaded = is_site_loaded setting state site in
      let made : (if is_covered parts.sites None site then with_entry catalog patch site (entries_at parts.sites.stacks site) else entries_at parts.sites.stacks site)
      ≡ (if loaded then entries_from setting site (reverse more) else []) =
      ap (λ b. if b then with_entry catalog patch site (entries_at parts.sites.stacks site) else entries_at parts.sites.stacks site) (loaded_in_scope state (object_of setting.image.objects site))
      ∙ ap (λ es. if loaded then with_entry catalog patch site es else es) (holds.entries site)
      ∙ on_top top setting site patch installed loaded
      in
      subst (λ es. length es ≤ length (entries_from setting site (reverse more))) (sym made) (no_more loaded (entries_from setting site (reverse more))))
      fits

module _ (parts : ManagerState) (catalog : Catalog) (holds : Invariant parts catalog) where
  -- the entries of the patches come to a module
  pub come_fits : (object : ℕ) (flags : List Bool) → FindRoom (λ site. entries_from (setting_in parts catalog) site (reverse (installed_patches (state_in parts catalog)))) (length parts.sites.stacks)
      → (table : SiteTable) → table ≡ record parts.sites { loaded = flags } → (now : Catalog) → patches_of now ≡ patches_of catalog → (patches : List ℕ) → patches ≡ installed_patches (state_in parts catalog)
      → HasRoom table (is_covered table (Some object)) (λ site entries. entries_from (setting_with table.image now) site (reverse patches))
  come_fits object flags fits table is now same patches are =
      let loaded : SiteTable = record parts.sites { loaded = flags } in
      subst (λ (t : SiteTable). HasRoom t (is_covered t (Some object)) (λ site entries. entries_from (setting_with t.image now) site (reverse patches))) (sym is)
      (subst (λ ps. HasRoom loaded (is_covered loaded (Some object)) (λ site entries. entries_from (record { image = parts.sites.image; patches = ps }) site (reverse patches))) (sym same)
      (subst (λ ps. HasRoom loaded (is_covered loaded (Some object)) (λ site entries. entries_from (setting_in parts catalog) site (reverse ps))) (sym are)
      (all_have_room (setting_in parts catalog) (installed_patches (state_in parts catalog)) loaded (is_covered loaded (Some object)) (λ site entries. entries_from (setting_in parts catalog) site (reverse (installed_patches (state_in parts catalog))))
      (λ site. few (is_covered loaded (Some object) site) site) fits)))
    where
      few : (covers : Bool) (site : ℕ) → length (if covers then entries_from (setting_in parts catalog) site (reverse (installed_patches (state_in parts catalog))) else entries_at parts.sites.stacks site) ≤ length (entries_from (setting_in parts catalog) site (reverse (installed_patches (state_in parts catalog))))
      few true site = omega arith
      few false site =
          subst (λ es. length es ≤ length (entries_from (setting_in parts catalog) site (reverse (installed_patches (state_in parts catalog))))) (sym (holds.entries site))
          (no_more (is_site_loaded (setting_in parts catalog) (state_in parts catalog) site) (entries_from (setting_in parts catalog) site (reverse (installed_patches (state_in parts catalog)))))
