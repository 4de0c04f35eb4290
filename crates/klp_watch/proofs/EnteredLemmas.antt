-- What the table tells of who is inside of an object.
use Rattle.std.proofs.Common.{◌≡◌, ℕ, zero, suc, Bool, true, false, List, [], ◌∷◌, refl, sym, ap, ◌∙◌}
use Rattle.std.specs.Prelude.{◌||◌}
use Rattle.std.specs.List.{list_any}
use Rattle.std.proofs.lemmas.Bool.{or_parts}
use Rattle.klp_types.specs.declared.version.Version.{Version}
use Rattle.klp_types.specs.Setting.{Setting}
use Rattle.klp_model.specs.Observed.{Stacks, is_frame_in}
use Rattle.klp_watch.specs.Inside.{frames_at, AreInside, are_in}
use Rattle.klp_watch.proofs.InsideLemmas.{inside_versions}

module _ (setting : Setting) (object : ℕ) where
  some_entered : (table : List (List Version)) → list_any (are_in setting object) table ≡ true
      → (task : ℕ) × (are_in setting object (frames_at table task) ≡ true)
  some_entered [] any = let no : ⊥ = cc in absurd no
  some_entered (frames ∷ table) any = by (are_in setting object frames) refl any (some_entered table)
    where
      by : (t : Bool) → are_in setting object frames ≡ t → (t || list_any (are_in setting object) table) ≡ true
          → (list_any (are_in setting object) table ≡ true → (task : ℕ) × (are_in setting object (frames_at table task) ≡ true))
          → (task : ℕ) × (are_in setting object (frames_at (frames ∷ table) task) ≡ true)
      by true here either among = (0, here)
      by false here either among = let later = among either in (suc later.0, later.1)

  none_entered : (table : List (List Version)) → list_any (are_in setting object) table ≡ false
      → (task : ℕ) → are_in setting object (frames_at table task) ≡ false
  none_entered [] none task = refl
  none_entered (frames ∷ table) none zero = (or_parts (are_in setting object frames) (list_any (are_in setting object) table) none).0
  none_entered (frames ∷ table) none (suc task) =
      none_entered table (or_parts (are_in setting object frames) (list_any (are_in setting object) table) none).1 task

  -- somebody is inside of the object
  pub entered : (table : List (List Version)) (stacks : Stacks) → AreInside table stacks → list_any (are_in setting object) table ≡ true
      → (task : ℕ) × (list_any (is_frame_in setting object) (stacks task) ≡ true)
  entered table stacks are any =
      let some = some_entered table any in
      (some.0, sym (inside_versions setting object (stacks some.0)) ∙ ap (are_in setting object) (sym (are some.0)) ∙ some.1)

  -- nobody is
  pub not_entered : (table : List (List Version)) (stacks : Stacks) → AreInside table stacks → list_any (are_in setting object) table ≡ false
      → (task : ℕ) → list_any (is_frame_in setting object) (stacks task) ≡ false
  not_entered table stacks are none task =
      sym (inside_versions setting object (stacks task)) ∙ ap (are_in setting object) (sym (are task)) ∙ none_entered table none task
