-- A patch that leaves takes its own entries along, and no other.
use Rattle.std.proofs.Common.{◌≡◌, ℕ, Bool, true, false, not, ◌&&◌, ◌||◌, cond, List, [], ◌∷◌, ◌++◌, reverse, Option, Some, None, refl, sym, ap, subst, ◌∙◌}
use Rattle.std.specs.Prelude.{◌==◌, if◌then◌else◌}
use Rattle.std.specs.List.{list_any, filter}
use Rattle.std.proofs.lemmas.Bool.{eq-eqb, eqb-true, or_parts, both_ways}
use Rattle.std.proofs.lemmas.Grind.{reverse_onto}
use Rattle.klp_types.specs.declared.version.Entry.{Entry}
use Rattle.klp_types.specs.declared.version.Transition.{Transition}
use Rattle.klp_types.specs.Image.{object_of}
use Rattle.klp_types.specs.World.{without_patch}
use Rattle.klp_types.specs.Setting.{Setting, functions_of, function_for, replaces}
use Rattle.klp_types.specs.Entries.{entry_of, patches_site, entries_from}
use Rattle.klp_types.specs.Pick.{moves}
use Rattle.klp_model.specs.State.{State, installed_patches, with_world}
use Rattle.klp_model.specs.Entries.{is_object_loaded, is_site_loaded, entries_of}
use Rattle.klp_model.specs.Versions.{others}
use Rattle.klp_model.specs.Allowed.{AreAbove, AreStacked, Allowed}
use Rattle.klp_model.proofs.OrderLemmas.{numbers-taken_out}
use Rattle.klp_types.proofs.EntryLemmas.{list_any-reverse}
use Rattle.klp_model.proofs.VersionLemmas.{others-reverse, left_out-others}

one_moves : (moving : Option Transition) (a b : ℕ) → moves moving a ≡ true → moves moving b ≡ true → (a == b) ≡ true
one_moves None a b e f = cc
one_moves (Some move) a b e f = eq-eqb a b (sym (eqb-true move.patch a e) ∙ eqb-true move.patch b f)

second_false : (a b : Bool) → a ≡ false → (not a && b) ≡ false → b ≡ false
second_false true b e f = cc
second_false false b e f = f

module _ (setting : Setting) (patch : ℕ) where
  -- whether another patch replaces
  abbrev other_replaces : ℕ → Bool
  other_replaces other = not (other == patch) && replaces setting other

  -- of the patches that have older ones only the moving one may replace
  none_replaces : (moving : Option Transition) → moves moving patch ≡ true → (newer : List ℕ) → AreAbove setting moving newer → list_any other_replaces newer ≡ false
  none_replaces moving e [] above = refl
  none_replaces moving e (first ∷ newer) above =
      ap (λ b. b || list_any other_replaces newer) (by (first == patch) (replaces setting first) refl refl) ∙ none_replaces moving e newer above.1
    where
      by : (same replaces_older : Bool) → (first == patch) ≡ same → replaces setting first ≡ replaces_older → (not same && replaces_older) ≡ false
      by true replaces_older is replacing = refl
      by false true is replacing = absurd (both_ways (first == patch) is (one_moves moving first patch (above.0 replacing).1 e))
      by false false is replacing = refl

  abbrev of_others : List Entry → List Entry
  of_others entries = filter (λ (e : Entry). not (e.patch == patch)) entries

  own_left : (own : ℕ) (function : Option ℕ) (nop : Bool) (older : List Entry) → (own == patch) ≡ true → of_others (entry_of own function nop ++ older) ≡ of_others older
  own_left own (Some function) nop older is = ap (λ b. cond (not b) (record { patch = own; func = Some function } ∷ of_others older) (of_others older)) is
  own_left own None true older is = ap (λ b. cond (not b) (record { patch = own; func = None } ∷ of_others older) (of_others older)) is
  own_left own None false older is = refl

  other_stays : (own : ℕ) (function : Option ℕ) (nop : Bool) (older : List Entry) → (own == patch) ≡ false
      → of_others (entry_of own function nop ++ older) ≡ entry_of own function nop ++ of_others older
  other_stays own (Some function) nop older is = ap (λ b. cond (not b) (record { patch = own; func = Some function } ∷ of_others older) (of_others older)) is
  other_stays own None true older is = ap (λ b. cond (not b) (record { patch = own; func = None } ∷ of_others older) (of_others older)) is
  other_stays own None false older is = refl

  module _ (site : ℕ) where
    abbrev entries : List ℕ → List Entry
    entries patches = entries_from setting site patches

    abbrev function_of : ℕ → Option ℕ
    function_of own = function_for (functions_of setting own) site

    abbrev patched : List ℕ → Bool
    patched patches = list_any (patches_site setting site) patches

    -- newest first, over the oldest, which may replace
    over_oldest : (oldest : ℕ) (patches : List ℕ) → list_any other_replaces patches ≡ false
        → entries (others patch (patches ++ oldest ∷ [])) ≡ of_others (entries (patches ++ oldest ∷ []))
    over_oldest oldest [] none = by (oldest == patch) refl
      where
        by : (t : Bool) → (oldest == patch) ≡ t → entries (cond t [] (oldest ∷ [])) ≡ of_others (entries (oldest ∷ []))
        by true is = sym (own_left oldest (function_of oldest) (replaces setting oldest && patched []) [] is)
        by false is = sym (other_stays oldest (function_of oldest) (replaces setting oldest && patched []) [] is)
    over_oldest oldest (first ∷ patches) none =
        let parts = or_parts (other_replaces first) (list_any other_replaces patches) none in
        by (first == patch) refl parts.0 (over_oldest oldest patches parts.1)
      where
        by : (t : Bool) → (first == patch) ≡ t → other_replaces first ≡ false → entries (others patch (patches ++ oldest ∷ [])) ≡ of_others (entries (patches ++ oldest ∷ []))
            → entries (cond t (others patch (patches ++ oldest ∷ [])) (first ∷ others patch (patches ++ oldest ∷ []))) ≡ of_others (entries (first ∷ (patches ++ oldest ∷ [])))
        by true is quiet rest = rest ∙ sym (own_left first (function_of first) (replaces setting first && patched (patches ++ oldest ∷ [])) (entries (patches ++ oldest ∷ [])) is)
        by false is quiet rest =
            let same = second_false (first == patch) (replaces setting first) is quiet in
            ap (λ b. entry_of first (function_of first) (b && patched (others patch (patches ++ oldest ∷ []))) ++ entries (others patch (patches ++ oldest ∷ []))) same
            ∙ ap (λ es. entry_of first (function_of first) false ++ es) rest
            ∙ sym (ap (λ b. entry_of first (function_of first) (b && patched (patches ++ oldest ∷ [])) ++ of_others (entries (patches ++ oldest ∷ []))) same)
            ∙ sym (other_stays first (function_of first) (replaces setting first && patched (patches ++ oldest ∷ [])) (entries (patches ++ oldest ∷ [])) is)

    of_list : (moving : Option Transition) → moves moving patch ≡ true → (patches : List ℕ) → AreStacked setting moving patches
        → entries (others patch (reverse patches)) ≡ of_others (entries (reverse patches))
    of_list moving e [] stacked = refl
    of_list moving e (oldest ∷ newer) stacked =
        subst (λ list. entries (others patch list) ≡ of_others (entries list)) (sym (reverse_onto newer oldest []))
        (over_oldest oldest (reverse newer) (list_any-reverse other_replaces newer ∙ none_replaces moving e newer stacked))

    abbrev left : State → State
    left state = with_world state (without_patch state.world patch)

    pub others_stay : (state : State) → Allowed setting state → moves state.moving patch ≡ true
        → entries_of setting (left state) site ≡ of_others (entries_of setting state site)
    others_stay state allowed e =
        ap (λ loaded. if loaded then entries (reverse (installed_patches (left state))) else []) (site_loaded (object_of setting.image.objects site))
        ∙ by (is_site_loaded setting state site)
      where
        site_loaded : (object : Option ℕ) → is_object_loaded (left state) object ≡ is_object_loaded state object
        site_loaded None = refl
        site_loaded (Some object) = refl

        by : (loaded : Bool) → (if loaded then entries (reverse (installed_patches (left state))) else []) ≡ of_others (if loaded then entries (reverse (installed_patches state)) else [])
        by true =
            ap (λ patches. entries (reverse patches)) (numbers-taken_out patch state.world.installed ∙ left_out-others patch (installed_patches state) allowed.distinct)
            ∙ ap entries (sym (others-reverse patch (installed_patches state)))
            ∙ of_list state.moving e (installed_patches state) allowed.stacked
        by false = refl
