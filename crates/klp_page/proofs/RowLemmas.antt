-- The mark of a row, and the end of the rows.
use Rattle.std.proofs.Common.{◌≡◌, ◌==◌, ◌≤◌, ◌+◌, ℕ, List, [], ◌∷◌, ◌++◌, true, false, length, drop, refl, sym, ap, ◌∙◌, arith, drop_of_length-le}
use Rattle.std.proofs.lemmas.Bool.{both_ways}
use Rattle.klp_page.specs.declared.style.TheConstants.{HELD, HELD_END}
use Rattle.klp_names.specs.Names.{Names}
use Rattle.klp_markup.specs.Tasks.{each_text}
use Rattle.klp_markup.specs.Adds.{Adds, Written}
use Rattle.klp_page.specs.declared.row.Row.{Row}
use Rattle.klp_page.specs.Text.{fold_end, mark_text, rows_from, set_up_end}

-- the mark of some tasks
pub mark_is : (names : Names) (tasks : List ℕ) → (length tasks == 0) ≡ false → HELD.now ++ each_text names tasks ++ HELD_END.now ≡ mark_text names tasks
mark_is names [] some = absurd (both_ways true some refl)
mark_is names (task ∷ tasks) some = refl

-- behind the last row the open folds end, and all rows are written
pub rows_end : (first mid last : Written) (names : Names) (set_up quiet index : ℕ) (rows : List Row) → length rows ≤ index → index ≤ length rows
    → (mid.is_short ≡ false → (first.is_short ≡ false) × (mid.text ++ rows_from names set_up quiet (index + 1) (drop index rows) ≡ first.text ++ rows_from names set_up 0 1 rows))
    → Adds mid last (set_up_end set_up (length rows + 1) ++ fold_end quiet) → Adds first last (rows_from names set_up 0 1 rows)
rows_end first mid last names set_up quiet index rows past within so ends = record {
  adds = λ whole.
      let was = ends.adds whole in
      let before = so was.0 in
      (before.0, was.1 ∙ ap (λ (text : List ℕ). mid.text ++ text) (sym ends_are) ∙ before.1);
}
  where
    same : index ≡ length rows
    same = omega (arith, past, within)

    ends_are : rows_from names set_up quiet (index + 1) (drop index rows) ≡ set_up_end set_up (length rows + 1) ++ fold_end quiet
    ends_are = rw (drop_of_length-le rows past, same) refl
