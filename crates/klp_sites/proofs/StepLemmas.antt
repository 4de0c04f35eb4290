-- The image and the stacks stay in step where the stack of one site changes.
use Rattle.std.proofs.Common.{◌≡◌, ◌-◌, ℕ, zero, suc, Bool, true, false, not, ◌&&◌, cond, List, [], ◌∷◌, length, get_or, map, replicate, set, take, drop, ◌<◌, refl, sym, ap, ◌∙◌, Some}
use Rattle.std.proofs.lemmas.List.{length-replicate, length-set, get_or-set_same, set-get_or}
use Rattle.klp_types.specs.declared.record.Place.{Place}
use Rattle.klp_types.specs.declared.version.Entry.{Entry}
use Rattle.klp_types.specs.Entries.{is_empty}
use Rattle.klp_text.specs.TextImage.{TextImage, site_count}
use Rattle.klp_stack.specs.Stack.{entries_at, has_entry, place_of}
use Rattle.klp_stack.specs.Undo.{may_be_at, put_at, put_entry}
use Rattle.klp_stack.proofs.StackLemmas.{put_some}
use Rattle.klp_sites.specs.Table.{is_stacked, is_hooked_at, IsInStep}

abbrev pub Entries : Type 0
Entries = List Entry

-- the flag of a site is that of its stack
pub flag_at : (stacks : List Entries) (site : ℕ) → get_or (map is_stacked stacks) site false ≡ is_hooked_at stacks site
flag_at [] site = refl
flag_at (first ∷ stacks) zero = refl
flag_at (first ∷ stacks) (suc site) = flag_at stacks site

flags_set : (stacks : List Entries) (site : ℕ) (new : Entries)
    → map is_stacked (set stacks site new) ≡ set (map is_stacked stacks) site (is_hooked_at (set stacks site new) site)
flags_set [] site new = refl
flags_set (first ∷ stacks) zero new = refl
flags_set (first ∷ stacks) (suc site) new = ap (λ rest. is_stacked first ∷ rest) (flags_set stacks site new)

-- the hook of a site whose stack is made anew
pub unhooked_by : (stacks : List Entries) (site : ℕ) (new : Entries) (to : List Entries) → to ≡ set stacks site new → is_empty new ≡ true → is_hooked_at to site ≡ false
unhooked_by stacks site new to is none = ap (λ s. is_hooked_at s site) is ∙ by stacks site
  where
    by : (stacks : List Entries) (site : ℕ) → is_hooked_at (set stacks site new) site ≡ false
    by [] site = refl
    by (first ∷ stacks) zero = ap not none
    by (first ∷ stacks) (suc site) = by stacks site

pub hooked_by : (stacks : List Entries) (site : ℕ) (new : Entries) (to : List Entries) → to ≡ set stacks site new → is_hooked_at stacks site ≡ true → is_empty new ≡ false → is_hooked_at to site ≡ true
hooked_by stacks site new to is before some = ap (λ s. is_hooked_at s site) is ∙ by stacks site before
  where
    by : (stacks : List Entries) (site : ℕ) → is_hooked_at stacks site ≡ true → is_hooked_at (set stacks site new) site ≡ true
    by [] site before = cc
    by (first ∷ stacks) zero before = ap not some
    by (first ∷ stacks) (suc site) before = by stacks site before

-- the stack of a site changes, and its hook to that of the new stack
module _ (image : TextImage) (stacks : List Entries) (kept : IsInStep image stacks) (site : ℕ) (new : Entries) (to : List Entries) (is : to ≡ set stacks site new) where
  pub turned : (hooked : Bool) → is_hooked_at to site ≡ hooked → (after : TextImage) → after ≡ record image { hooked = set image.hooked site hooked } → IsInStep after to
  turned hooked now after e = rw (e, is) (record {
    each_stack = length-set stacks site new ∙ kept.each_stack;
    hooks =
        ap (λ flags. set flags site hooked) kept.hooks
        ∙ sym (flags_set stacks site new ∙ ap (set (map is_stacked stacks) site) (ap (λ s. is_hooked_at s site) (sym is) ∙ now));
  })

  -- the hook stays where the new stack has the old one's
  pub unturned : (hooked : Bool) → is_hooked_at stacks site ≡ hooked → is_hooked_at to site ≡ hooked → IsInStep image to
  unturned hooked before now =
      let flag : get_or image.hooked site false ≡ hooked = ap (λ flags. get_or flags site false) kept.hooks ∙ flag_at stacks site ∙ before in
      turned hooked now image
      (ap (λ flags. record image { hooked = flags }) (sym (ap (set image.hooked site) (sym flag) ∙ set-get_or image.hooked site false)))

-- what was put at a site is there
pub hooked_now : (stacks : List Entries) (site : ℕ) (entry : Entry) (older : Entries) (to : List Entries) → to ≡ set stacks site (entry ∷ older) → site < length stacks → is_hooked_at to site ≡ true
hooked_now stacks site entry older to is there = rw (is, get_or-set_same stacks site (entry ∷ older) [] there) refl

-- a stack with a patch's entry has an entry
pub hooked_with : (patch : ℕ) (entries : Entries) → has_entry patch entries ≡ true → is_stacked entries ≡ true
hooked_with patch [] there = cc
hooked_with patch (entry ∷ older) there = refl

pub hooked_at : (patch : ℕ) (entries : Entries) (place : Place) → place_of patch entries ≡ Some place → is_stacked entries ≡ true
hooked_at patch [] place there = cc
hooked_at patch (entry ∷ older) place there = refl

-- an entry is put back, and it isn't the first
put_to_some : (patch : ℕ) (place : Place) (entries : Entries) → is_empty entries ≡ false → is_empty (put_entry patch (Some place) entries) ≡ false
put_to_some patch place entries some =
    elim (may_be_at patch place.index entries) as (λ b. is_empty (cond b (put_at place.index (record { patch = patch; func = place.func }) entries) entries) ≡ false) [
      | true ↦ put_some (take (length entries - place.index) entries) (drop (length entries - place.index) entries) (record { patch = patch; func = place.func })
      | false ↦ some
    ]

pub same_hook : (patch : ℕ) (place : Place) (stacks : List Entries) (site : ℕ) (to : List Entries) → to ≡ set stacks site (put_entry patch (Some place) (entries_at stacks site))
    → (is_empty (entries_at stacks site) && not (is_empty (entries_at to site))) ≡ false → is_hooked_at to site ≡ is_hooked_at stacks site
same_hook patch place stacks site to is turned =
    elim (is_empty (entries_at stacks site)) as (λ b. is_empty (entries_at stacks site) ≡ b → (b && not (is_empty (entries_at to site))) ≡ false → is_hooked_at to site ≡ not b) [
      | true ↦ λ none left. left
      | false ↦ λ some left. hooked_by stacks site (put_entry patch (Some place) (entries_at stacks site)) to is (ap not some) (put_to_some patch place (entries_at stacks site) some)
    ] refl turned

-- no site without an entry is hooked
pub none_stacked : (n : ℕ) (stacks : List Entries) → stacks ≡ replicate n [] → (site : ℕ) → is_hooked_at stacks site ≡ false
none_stacked n stacks is site = ap (λ s. is_hooked_at s site) is ∙ by n site
  where
    by : (n site : ℕ) → is_hooked_at (replicate n []) site ≡ false
    by zero site = refl
    by (suc n) zero = refl
    by (suc n) (suc site) = by n site

flags_resting : (n : ℕ) → replicate n false ≡ map is_stacked (replicate n [])
flags_resting zero = refl
flags_resting (suc n) = ap (λ rest. false ∷ rest) (flags_resting n)

-- an image that isn't hooked anywhere is in step with stacks without entries
pub opened : (image : TextImage) (n : ℕ) (stacks : List Entries) → n ≡ site_count image.image → image.hooked ≡ replicate (site_count image.image) false → stacks ≡ replicate n []
    → IsInStep image stacks
opened image n stacks count resting is = record {
  each_stack = ap length is ∙ length-replicate n [] ∙ count;
  hooks = resting ∙ flags_resting (site_count image.image) ∙ sym (ap (map is_stacked) (is ∙ ap (λ k. replicate k []) count));
}
