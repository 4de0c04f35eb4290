-- The parts as they are made.
use Rattle.std.proofs.Common.{◌≡◌, ℕ, zero, suc, Bool, true, false, List, [], ◌∷◌, length, replicate, reverse, None, refl, sym, ap, subst, ◌∙◌, arith}
use Rattle.std.specs.Prelude.{◌<◌, slice_set, if◌then◌else◌}
use Rattle.std.specs.FinMap as finite
use Rattle.std.proofs.lemmas.List.{length-map}
use Rattle.klp_types.specs.declared.limits.TheConstants.{MAX_TASKS, MAX_RECORDS}
use Rattle.klp_types.specs.declared.version.Entry.{Entry}
use Rattle.klp_types.specs.Image.{Object}
use Rattle.klp_types.specs.Setting.{Setting}
use Rattle.klp_types.specs.World.{World}
use Rattle.klp_types.specs.Entries.{is_empty, entries_from}
use Rattle.klp_model.specs.Entries.{is_site_loaded}
use Rattle.klp_model.specs.Allowed.{Allowed}
use Rattle.klp_model.specs.Opening.{opening_state}
use Rattle.klp_model.specs.Stated.{IsStated}
use Rattle.klp_text.specs.TextImage.{TextImage, IsWithinLimits, site_count, opening}
use Rattle.klp_modules.specs.Names.{names_of}
use Rattle.klp_catalog.specs.Catalog.{Catalog, setting_patch}
use Rattle.klp_stack.specs.Stack.{entries_at}
use Rattle.klp_sites.specs.Table as table
use Rattle.klp_manager_state.specs.declared.state.ManagerState.{ManagerState}
use Rattle.klp_manager_state.specs.Invariant.{Invariant}
use Rattle.klp_manager_state.proofs.InstalledLemmas.{numbers_of}
use Rattle.klp_manager_state.specs.Managed.{setting_in, state_in}

no_stack : (count site : ℕ) → entries_at (replicate count []) site ≡ []
no_stack zero site = refl
no_stack (suc count) zero = refl
no_stack (suc count) (suc site) = no_stack count site

nothing_there : (loaded : Bool) → (◌≡◌ {A = List Entry} [] (if loaded then [] else []))
nothing_there true = refl
nothing_there false = refl

some_object : (objects : List Object) → 0 < length objects → is_empty objects ≡ false
some_object [] some = absurd (omega (arith, some))
some_object (object ∷ objects) some = refl

-- the state is that of a manager over this image, in which nothing has happened yet
pub record AreNew (manager : ManagerState) (catalog : Catalog) (text : TextImage) : Type 0 where
  pub sites : manager.sites ≡ table.opening text
  pub given : text ≡ opening text.image.handler text.image.objects
  pub world : manager.world ≡ record { installed = []; shadow = finite.empty }
  pub tasks : manager.tasks ≡ replicate MAX_TASKS None
  pub moving : manager.moving ≡ None
  pub pinned : manager.pinned ≡ replicate (length catalog.patches) false

pub opening_kept : ((setting : Setting) → is_empty setting.image.objects ≡ false → Allowed setting (opening_state setting))
    → ((setting : Setting) → IsStated setting (opening_state setting))
    → (manager : ManagerState) (catalog : Catalog) (text : TextImage) → AreNew manager catalog text → IsWithinLimits text.image.objects
    → manager.modules ≡ record { names = names_of text.image.objects; loaded = slice_set (replicate (length text.image.objects) false) 0 true }
    → catalog.names ≡ names_of text.image.objects → manager.log.room ≡ MAX_RECORDS → Invariant manager catalog
opening_kept allowed stated manager catalog text new limits modules names room =
    let setting = setting_in manager catalog in
    let image = ap (λ (t : table.SiteTable). t.image) new.sites in
    let flags : manager.sites.loaded ≡ slice_set (replicate (length text.image.objects) false) 0 true =
    ap (λ (t : table.SiteTable). t.loaded) new.sites ∙ ap (λ (t : TextImage). t.loaded) new.given
    in
    let many = length-map catalog.patches (setting_patch catalog.names) in
    let state : state_in manager catalog ≡ opening_state setting = rw (new.world, new.tasks, new.moving, new.pinned, flags, many, image) refl in
    let fits : IsWithinLimits manager.sites.image.objects = rw image limits in
    record {
      allowed = subst (Allowed setting) (sym state) (allowed setting (some_object manager.sites.image.objects fits.kernel));
      stated = subst (IsStated setting) (sym state) (stated setting);
      limits = fits;
      modules_are = modules ∙ rw (flags, image) refl;
      catalog_names = names ∙ rw image refl;
      entries = λ site. ap (λ (t : table.SiteTable). entries_at t.stacks site) new.sites ∙ no_stack (site_count text.image) site
          ∙ nothing_there (is_site_loaded setting (state_in manager catalog) site)
          ∙ ap (λ (w : World). if is_site_loaded setting (state_in manager catalog) site then entries_from setting site (reverse (numbers_of w)) else []) (sym new.world);
      room = room;
    }
