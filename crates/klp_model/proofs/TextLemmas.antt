-- The text of a loaded object, symbol by symbol.
use Rattle.std.proofs.Common.{◌≡◌, ℕ, ◌+◌, Bool, true, false, Option, Some, None, refl, sym, ap, ◌∙◌}
use Rattle.std.specs.Prelude.{option_map, ◌&&◌, if◌then◌else◌}
use Rattle.std.specs.List.{list_any}
use Rattle.klp_types.specs.Image.{object_of, first_site, given_symbol}
use Rattle.klp_types.specs.Setting.{Setting}
use Rattle.klp_types.specs.Entries.{patches_site}
use Rattle.klp_types.specs.Bytes.{patched, resting, text_where, symbol_in}
use Rattle.klp_types.proofs.TextLemmas.{symbol_in-text_where, reads_nop}
use Rattle.klp_model.specs.State.{State, is_flagged, is_loaded, installed_patches}
use Rattle.klp_model.specs.Entries.{is_hooked, is_object_loaded, is_site_loaded}
use Rattle.klp_model.specs.Bytes.{text_of}
use Rattle.klp_model.proofs.EntryLemmas.{is_hooked-any}

module _ (setting : Setting) (state : State) (object number : ℕ) (loaded : is_loaded state object ≡ true) where
  is_there : symbol_in (text_of setting state object) number ≡ symbol_in (text_where setting.image (is_hooked setting state) object) number
  is_there = ap (λ l. symbol_in (if l then text_where setting.image (is_hooked setting state) object else None) number) loaded

  pub symbol_in-text_of : symbol_in (text_of setting state object) number
      ≡ option_map (patched setting.image.handler (is_hooked setting state (first_site setting.image.objects object + number))) (given_symbol setting.image object number)
  symbol_in-text_of = is_there ∙ symbol_in-text_where setting.image (is_hooked setting state) object number

  pub text_of-nop : is_hooked setting state (first_site setting.image.objects object + number) ≡ false
      → symbol_in (text_of setting state object) number ≡ option_map resting (given_symbol setting.image object number)
  text_of-nop unhooked = is_there ∙ reads_nop setting.image (is_hooked setting state) object number unhooked

object_loaded-same : (a b : State) → a.loaded ≡ b.loaded → (object : Option ℕ) → is_object_loaded a object ≡ is_object_loaded b object
object_loaded-same a b loaded None = refl
object_loaded-same a b loaded (Some object) = ap (λ flags. is_flagged flags object) loaded

pub text_of-same : (setting : Setting) (a b : State) (object : ℕ) → a.loaded ≡ b.loaded
    → ((site : ℕ) → list_any (patches_site setting site) (installed_patches a) ≡ list_any (patches_site setting site) (installed_patches b))
    → text_of setting a object ≡ text_of setting b object
text_of-same setting a b object loaded same =
    ap (λ flags. if is_flagged flags object then text_where setting.image (is_hooked setting a) object else None) loaded
    ∙ ap (λ (hooked : ℕ → Bool). if is_loaded b object then text_where setting.image hooked object else None) (λ i site. hooked_same site i)
  where
    hooked_same : (site : ℕ) → is_hooked setting a site ≡ is_hooked setting b site
    hooked_same site =
        is_hooked-any setting a site
        ∙ ap (λ l. l && list_any (patches_site setting site) (installed_patches a)) (object_loaded-same a b loaded (object_of setting.image.objects site))
        ∙ ap (λ any. is_site_loaded setting b site && any) (same site)
        ∙ sym (is_hooked-any setting b site)
