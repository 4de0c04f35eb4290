-- The table of versions, and what it stands for.
use Rattle.std.proofs.Common.{◌≡◌, ℕ, zero, suc, ◌-◌, ◌≤◌, Bool, true, false, List, [], ◌∷◌, ◌++◌, length, take, set, replicate, refl, sym, ap, ◌∙◌, arith, nat_lt}
use Rattle.std.specs.Prelude.{◌==◌, ◌||◌, if◌then◌else◌}
use Rattle.std.specs.List.{list_any}
use Rattle.std.proofs.lemmas.Bool.{eqb-true, eqb-false, ltb-true, ltb-false}
use Rattle.std.proofs.lemmas.List.{get_or-set_same, get_or-set_other, get_or_past, length-set, map-append}
use Rattle.klp_types.specs.declared.version.Version.{Version}
use Rattle.klp_types.specs.Setting.{Setting}
use Rattle.klp_types.specs.Entries.{is_empty}
use Rattle.klp_model.specs.Frames.{is_object, object_of_version}
use Rattle.klp_model.specs.Observed.{Frame, Stacks, with_frames, versions, drop_last, is_frame_in}
use Rattle.klp_watch.specs.Inside.{frames_at, AreInside, are_in}

-- at first nobody is inside of anything
pub none_inside : (count : ℕ) → AreInside (replicate count []) (λ n. [])
none_inside zero task = refl
none_inside (suc count) zero = refl
none_inside (suc count) (suc task) = none_inside count task

-- one task is inside of other frames, where it has a place in the table, or now is inside of nothing
pub put_inside : (table : List (List Version)) (stacks : Stacks) (task : ℕ) (frames : List Frame) → AreInside table stacks
    → (length table ≤ task → versions frames ≡ []) → AreInside (set table task (versions frames)) (with_frames stacks task frames)
put_inside table stacks task frames are out other = by (other == task) refl
  where
    here : (t : Bool) → (nat_lt task (length table)) ≡ t → frames_at (set table task (versions frames)) task ≡ versions frames
    here true is = get_or-set_same table task (versions frames) [] (ltb-true task (length table) is)
    here false is =
        let past : length table ≤ task = ltb-false task (length table) is in
        get_or_past (set table task (versions frames)) task [] (omega (arith, length-set table task (versions frames), past)) ∙ sym (out past)

    by : (t : Bool) → (other == task) ≡ t → frames_at (set table task (versions frames)) other ≡ versions (if t then frames else stacks other)
    by true is = ap (frames_at (set table task (versions frames))) (eqb-true other task is) ∙ here (nat_lt task (length table)) refl
    by false is = get_or-set_other table task other (versions frames) [] (λ e. eqb-false other task is e) ∙ are other

-- a call puts its version behind the others
pub called_versions : (frames : List Frame) (site : ℕ) (version : Version) → versions frames ++ version ∷ [] ≡ versions (frames ++ record { site = site; version = version } ∷ [])
called_versions frames site version = sym (map-append (λ (f : Frame). f.version) frames (record { site = site; version = version } ∷ []))

-- a return takes the last version out
pub returned_versions : (frames : List Frame) → take (length (versions frames) - 1) (versions frames) ≡ versions (drop_last frames)
returned_versions [] = refl
returned_versions (frame ∷ []) = refl
returned_versions (frame ∷ next ∷ frames) =
    ap (λ n. take n (versions (frame ∷ next ∷ frames))) one ∙ ap (λ vs. frame.version ∷ vs) (returned_versions (next ∷ frames))
  where
    one : length (versions (frame ∷ next ∷ frames)) - 1 ≡ suc (length (versions (next ∷ frames)) - 1)
    one = omega arith

pub empty_versions : (frames : List Frame) → is_empty (versions frames) ≡ is_empty frames
empty_versions [] = refl
empty_versions (frame ∷ frames) = refl

-- whether a task is inside of an object is seen by its versions
pub inside_versions : (setting : Setting) (object : ℕ) (frames : List Frame) → are_in setting object (versions frames) ≡ list_any (is_frame_in setting object) frames
inside_versions setting object [] = refl
inside_versions setting object (frame ∷ frames) = ap (λ b. is_object object (object_of_version setting frame.version) || b) (inside_versions setting object frames)
