-- Rows of lines, one after the other, and what was seen with them.
use Rattle.std.proofs.Common.{◌≡◌, ℕ, suc, ◌==◌, false, true, List, [], ◌∷◌, ◌++◌, length, refl, sym, ap, subst, ◌∙◌, append_assoc, append-nil, arith}
use Rattle.std.proofs.lemmas.Bool.{both_ways, eqb-true}
use Rattle.std.proofs.lemmas.List.{nil_from_length}
use Rattle.std.proofs.lemmas.Option.{same_Some, none-some}
use Rattle.std.specs.Prelude.{slice_get, ◌-◌, Some}
use Rattle.klp_core.specs.Journaled.{Journaled}
use Rattle.klp_console.specs.Lines.{whole, lines_of}
use Rattle.klp_timeline.specs.declared.moment.Moment.{Moment}
use Rattle.klp_timeline.specs.declared.moment.View.{View}
use Rattle.klp_page.specs.declared.row.Row.{Row}
use Rattle.klp_page.specs.Rows.{IsScriptRow, AddsRow, AreRows, last_view}
use Rattle.klp_page.specs.Pages.{HasRows}

-- the row of one line more
pub rows_on : (first next last : Journaled) (view : View) (lines : List (List ℕ)) (rows : List Row) (run : List Moment) (line : List ℕ) (row : Row) (moment : Moment)
    → AreRows first next view lines rows run → IsScriptRow next last (last_view view run) line row moment
    → AreRows first last view (lines ++ line ∷ []) (rows ++ row ∷ []) (run ++ moment ∷ [])
rows_on first next last view [] [] [] line row moment same is = (last, subst (λ m. IsScriptRow m last view line row moment) same is, refl)
rows_on first next last view [] [] (other ∷ run) line row moment are is = absurd are
rows_on first next last view [] (other ∷ rows) run line row moment are is = absurd are
rows_on first next last view (other ∷ lines) [] run line row moment are is = absurd are
rows_on first next last view (other ∷ lines) (own ∷ rows) [] line row moment are is = absurd are
rows_on first next last view (other ∷ lines) (own ∷ rows) (seen ∷ run) line row moment are is =
    (are.0, are.1, rows_on are.0 next last seen.view lines rows run line row moment are.2 is)

-- the same, where the row and the moment were added
pub rows_added : (first next last : Journaled) (view : View) (lines : List (List ℕ)) (rows more_rows : List Row) (run more_run : List Moment) (line : List ℕ)
    → AreRows first next view lines rows run → AddsRow next last view line rows more_rows run more_run
    → AreRows first last view (lines ++ line ∷ []) more_rows more_run
rows_added first next last view lines rows more_rows run more_run line are adds =
    subst (λ r. AreRows first last view (lines ++ line ∷ []) r more_run) (sym adds.rows_are)
    (subst (λ r. AreRows first last view (lines ++ line ∷ []) (rows ++ adds.row ∷ []) r) (sym adds.run_is)
    (rows_on first next last view lines rows run line adds.row adds.moment are adds.is_row))

-- the last line needs no line feed
whole_on : (lines : List (List ℕ)) (line : List ℕ) → whole (lines ++ line ∷ []) ≡ lines ++ whole (line ∷ [])
whole_on [] line = refl
whole_on ([] ∷ []) line = refl
whole_on ([] ∷ next ∷ lines) line = ap (λ more. [] ∷ more) (whole_on (next ∷ lines) line)
whole_on ((b ∷ bs) ∷ lines) line = ap (λ more. (b ∷ bs) ∷ more) (whole_on lines line)

whole_line : (line : List ℕ) → (length line == 0) ≡ false → whole (line ∷ []) ≡ line ∷ []
whole_line [] some = absurd (both_ways true some refl)
whole_line (b ∷ bs) some = refl

-- all lines have their rows where the last one is empty
pub rows_of_all : (first last : Journaled) (view : View) (script line : List ℕ) (rows : List Row) (run : List Moment)
    → HasRows first last view script line rows run → (length line == 0) ≡ true → AreRows first last view (lines_of script) rows run
rows_of_all first last view script line rows run has empty =
    let none : line ≡ [] = nil_from_length line (eqb-true _ 0 empty) in
    let are : lines_of script ≡ has.lines = ap whole has.parted ∙ whole_on has.lines line ∙ ap (λ l. has.lines ++ whole (l ∷ [])) none ∙ append-nil has.lines in
    subst (λ lines. AreRows first last view lines rows run) (sym are) has.shown

-- and where it has its row too
pub rows_with_last : (first next last : Journaled) (view : View) (script line : List ℕ) (rows more_rows : List Row) (run more_run : List Moment)
    → HasRows first next view script line rows run → (length line == 0) ≡ false → AddsRow next last view line rows more_rows run more_run
    → AreRows first last view (lines_of script) more_rows more_run
rows_with_last first next last view script line rows more_rows run more_run has some adds =
    let are : lines_of script ≡ has.lines ++ line ∷ [] = ap whole has.parted ∙ whole_on has.lines line ∙ ap (λ l. has.lines ++ l) (whole_line line some) in
    subst (λ lines. AreRows first last view lines more_rows more_run) (sym are)
    (rows_added first next last view has.lines rows more_rows run more_run line has.shown adds)

-- what is cut so far, with one line more
pub one_more : (all lines : List (List ℕ)) (mid rest : List (List ℕ)) (line : List ℕ) → all ≡ lines ++ mid → mid ≡ line ∷ rest → all ≡ (lines ++ line ∷ []) ++ rest
one_more all lines mid rest line so_far next = so_far ∙ ap (λ l. lines ++ l) next ∙ sym (append_assoc lines (line ∷ []) rest)

-- there are as many rows as lines
pub as_many_rows : (first last : Journaled) (view : View) (lines : List (List ℕ)) (rows : List Row) (run : List Moment)
    → AreRows first last view lines rows run → length rows ≡ length lines
as_many_rows first last view [] [] [] are = refl
as_many_rows first last view [] [] (moment ∷ run) are = absurd are
as_many_rows first last view [] (row ∷ rows) run are = absurd are
as_many_rows first last view (line ∷ lines) [] run are = absurd are
as_many_rows first last view (line ∷ lines) (row ∷ rows) [] are = absurd are
as_many_rows first last view (line ∷ lines) (row ∷ rows) (moment ∷ run) are = ap suc (as_many_rows are.0 last moment.view lines rows run are.2)

-- what the last moment shows was seen last
pub last_seen : (view : View) (run : List Moment) (moment : Moment) → slice_get run (length run - 1) ≡ Some moment → moment.view ≡ last_view view run
last_seen view [] moment is = absurd (none-some moment is)
last_seen view (first ∷ []) moment is = sym (ap (λ (m : Moment). m.view) (same_Some first moment is))
last_seen view (first ∷ next ∷ run) moment is =
    let behind : length (first ∷ next ∷ run) - 1 ≡ suc (length run) = omega (arith) in
    let there : length run ≡ length (next ∷ run) - 1 = omega (arith) in
    last_seen first.view (next ∷ run) moment
    (ap (slice_get (next ∷ run)) (sym there) ∙ sym (ap (slice_get (first ∷ next ∷ run)) behind) ∙ is)
