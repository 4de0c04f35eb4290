-- A change of one stack among all.
use Rattle.std.proofs.Common.{◌≡◌, ℕ, zero, suc, ◌<◌, true, false, List, [], ◌∷◌, length, set, refl, sym, ap, ◌∙◌, arith, Option, None}
use Rattle.std.proofs.lemmas.Bool.{eq-eqb}
use Rattle.std.proofs.lemmas.List.{set-set, set-get_or, get_or-set_same}
use Rattle.klp_types.specs.declared.record.Place.{Place}
use Rattle.klp_types.specs.declared.record.Record.TheVariants.{StackEntry}
use Rattle.klp_types.specs.declared.version.Entry.{Entry}
use Rattle.klp_stack.specs.Stack.{entries_at, has_entry, entries_of_others, place_of}
use Rattle.klp_stack.specs.Undo.{put_entry, put_back}
use Rattle.klp_stack.specs.Changes.{Changes}
use Rattle.klp_stack.proofs.EntryLemmas.{its_others}
use Rattle.klp_stack.proofs.StackLemmas.{not_taken}

abbrev pub Entries : Type 0
Entries = List Entry

-- a patch that has an entry at a site has a site
pub site_there : (patch : ℕ) (stacks : List Entries) (site : ℕ) → has_entry patch (entries_at stacks site) ≡ true → site < length stacks
site_there patch [] site there = cc
site_there patch (first ∷ stacks) zero there = omega arith
site_there patch (first ∷ stacks) (suc site) there = let later = site_there patch stacks site there in omega arith

pub pushed_undo : (entry : Entry) (older : Entries) → has_entry entry.patch older ≡ false → entries_of_others entry.patch (entry ∷ older) ≡ older
pushed_undo entry older none = its_others entry older entry.patch (eq-eqb entry.patch entry.patch refl) [] refl none

-- the record of a change gives the stacks before
pub made : (before after : List Entries) (site patch : ℕ) (was : Option Place) (entries : Entries) → site < length before → after ≡ set before site entries
    → put_entry patch was entries ≡ entries_at before site → Changes before after (StackEntry site patch was) (set before site entries)
made before after site patch was entries there is undo = record {
  stacks = is;
  undo =
      ap (λ s. put_back s (StackEntry site patch was)) is
      ∙ set-set before site entries (put_entry patch was (entries_at (set before site entries) site))
      ∙ ap (λ es. set before site (put_entry patch was es)) (get_or-set_same before site entries [] there)
      ∙ ap (set before site) undo ∙ set-get_or before site [];
}

-- where the patch has no entry, all stay
pub none_made : (before after : List Entries) (site patch : ℕ) → after ≡ before → place_of patch (entries_at before site) ≡ None
    → Changes before after (StackEntry site patch (place_of patch (entries_at before site))) (set before site (entries_of_others patch (entries_at before site)))
none_made before after site patch same none =
    let others = not_taken patch (entries_at before site) none in
    let rest : set before site (entries_of_others patch (entries_at before site)) ≡ before = ap (set before site) others ∙ set-get_or before site [] in
    record {
      stacks = same ∙ sym rest;
      undo = ap (λ w. put_back after (StackEntry site patch w)) none ∙ ap (λ s. put_back s (StackEntry site patch None)) same ∙ rest;
    }
