-- The entries of sites when a patch is put last.
use Rattle.std.proofs.Common.{◌≡◌, ℕ, Bool, true, false, ◌&&◌, ◌||◌, List, [], ◌∷◌, ◌++◌, reverse, Option, Some, None, refl, sym, ap, ◌∙◌}
use Rattle.std.specs.Prelude.{not, ◌==◌, if◌then◌else◌}
use Rattle.std.specs.List.{list_any}
use Rattle.std.proofs.Math.Bool.{or_comm, or-false}
use Rattle.std.proofs.lemmas.Grind.{reverse_onto}
use Rattle.std.proofs.lemmas.List.{reverse-append}
use Rattle.std.proofs.lemmas.List.Folds.{list_any-append}
use Rattle.klp_types.specs.declared.version.Entry.{Entry}
use Rattle.klp_types.specs.Image.{object_of}
use Rattle.klp_types.specs.Setting.{Setting, functions_of, function_for, replaces}
use Rattle.klp_types.specs.Entries.{entries_from, entry_of, is_empty}
use Rattle.klp_model.specs.State.{State, installed_patches}
use Rattle.klp_model.specs.Entries.{is_object_loaded, is_site_loaded, entries_of}
use Rattle.klp_model.specs.Allowed.{is_one_of}
use Rattle.klp_patch.specs.Covered.{is_object_in_scope}
use Rattle.klp_stack.specs.Stack.{has_entry}

-- a patch put last gets its entry on top
abbrev pub OnTop : Type 0
OnTop = (setting : Setting) (site patch : ℕ) (older : List ℕ) → entries_from setting site (patch ∷ older)
    ≡ entry_of patch (function_for (functions_of setting patch) site) (replaces setting patch && not (is_empty (entries_from setting site older))) ++ entries_from setting site older

-- entries are of installed patches
abbrev pub OfInstalled : Type 0
OfInstalled = (setting : Setting) (site patch : ℕ) (patches : List ℕ) → list_any (λ (e : Entry). e.patch == patch) (entries_from setting site patches) ≡ true
    → list_any (λ p. p == patch) patches ≡ true

-- the sites of loaded objects
pub loaded_in_scope : (state : State) (object : Option ℕ) → is_object_in_scope None state.loaded object ≡ is_object_loaded state object
loaded_in_scope state None = refl
loaded_in_scope state (Some object) = refl

pub on_top : OnTop → (setting : Setting) (site patch : ℕ) (patches : List ℕ) (loaded : Bool)
    → (if loaded then entry_of patch (function_for (functions_of setting patch) site) (replaces setting patch && not (is_empty (if loaded then entries_from setting site (reverse patches) else [])))
    ++ (if loaded then entries_from setting site (reverse patches) else []) else (if loaded then entries_from setting site (reverse patches) else []))
    ≡ (if loaded then entries_from setting site (reverse (patches ++ patch ∷ [])) else [])
on_top law setting site patch patches true =
    sym (ap (entries_from setting site) (reverse-append patches (patch ∷ [])) ∙ law setting site patch (reverse patches))
on_top law setting site patch patches false = refl

-- the entries of a site once a patch is put last
pub put_last : OnTop → (setting : Setting) (before after : State) (patch site : ℕ) → after.loaded ≡ before.loaded
    → installed_patches after ≡ installed_patches before ++ patch ∷ [] → (covered : Bool) → covered ≡ is_site_loaded setting before site
    → (entries : List Entry) → entries ≡ entries_of setting before site
    → (if covered then entry_of patch (function_for (functions_of setting patch) site) (replaces setting patch && not (is_empty entries)) ++ entries else entries)
    ≡ entries_of setting after site
put_last law setting before after patch site loaded more covered in_scope entries are =
    rw (are, in_scope)
    (on_top law setting site patch (installed_patches before) (is_site_loaded setting before site)
    ∙ ap (λ (ps : List ℕ). if is_site_loaded setting before site then entries_from setting site (reverse ps) else []) (sym more)
    ∙ ap (λ (b : Bool). if b then entries_from setting site (reverse (installed_patches after)) else []) (same_loaded (object_of setting.image.objects site)))
  where
    same_loaded : (object : Option ℕ) → is_object_loaded before object ≡ is_object_loaded after object
    same_loaded None = refl
    same_loaded (Some object) = rw loaded refl

no_entry : OfInstalled → (setting : Setting) (site patch : ℕ) (patches : List ℕ) (any : Bool) → list_any (λ (e : Entry). e.patch == patch) (entries_from setting site patches) ≡ any
    → is_one_of patch patches ≡ false → any ≡ false
no_entry law setting site patch patches true is apart = let there = law setting site patch patches is in let no : ⊥ = cc in absurd no
no_entry law setting site patch patches false is apart = refl

any-last : (patch p : ℕ) (patches : List ℕ) → is_one_of patch (patches ++ p ∷ []) ≡ (is_one_of patch patches || p == patch)
any-last patch p patches = list_any-append (λ q. q == patch) patches (p ∷ []) ∙ ap (λ b. is_one_of patch patches || b) (or-false (p == patch))

any-reverse : (patch : ℕ) (patches : List ℕ) → is_one_of patch (reverse patches) ≡ is_one_of patch patches
any-reverse patch [] = refl
any-reverse patch (p ∷ patches) =
    ap (is_one_of patch) (reverse_onto patches p [])
    ∙ any-last patch p (reverse patches)
    ∙ ap (λ b. b || p == patch) (any-reverse patch patches)
    ∙ or_comm (is_one_of patch patches) (p == patch)

-- a patch that isn't installed has no entry
pub no_entry_at : OfInstalled → (setting : Setting) (state : State) (patch : ℕ) → is_one_of patch (installed_patches state) ≡ false → (site : ℕ)
    → has_entry patch (entries_of setting state site) ≡ false
no_entry_at law setting state patch apart site =
    elim (is_site_loaded setting state site) as (λ b. has_entry patch (if b then entries_from setting site (reverse (installed_patches state)) else []) ≡ false) [
      | true ↦ no_entry law setting site patch (reverse (installed_patches state)) _ refl (any-reverse patch (installed_patches state) ∙ apart)
      | false ↦ refl
    ]
