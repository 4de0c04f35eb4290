-- Rows of a trace, one after the other.
use Rattle.std.proofs.Common.{◌≡◌, ◌≤◌, ◌-◌, ℕ, suc, List, [], ◌∷◌, ◌++◌, length, get_or, take, drop, refl, sym, ap, subst, ◌∙◌, append_assoc, append-nil, arith}
use Rattle.std.proofs.lemmas.List.{nil_from_length, take_rest}
use Rattle.klp_core.specs.Journaled.{Journaled}
use Rattle.klp_timeline.specs.declared.moment.Moment.{Moment}
use Rattle.klp_timeline.specs.declared.moment.View.{View}
use Rattle.klp_watch.specs.declared.observed.Observed.{Observed}
use Rattle.klp_page.specs.declared.row.Row.{Row}
use Rattle.klp_page.specs.Rows.{last_view}
use Rattle.klp_trace_page.specs.Traced.{item_text, IsTracedRow, AreTraced, AddsTracedRow}

-- the row of one line more
pub traced_on : (first next last : Journaled) (view : View) (lines : List (List ℕ)) (items : List Observed) (rows : List Row) (run : List Moment)
    (line : List ℕ) (item : Observed) (row : Row) (moment : Moment)
    → AreTraced first next view lines items rows run → IsTracedRow next last (last_view view run) (item_text line) item row moment
    → AreTraced first last view (lines ++ line ∷ []) (items ++ item ∷ []) (rows ++ row ∷ []) (run ++ moment ∷ [])
traced_on first next last view [] [] [] [] line item row moment same is =
    (last, subst (λ m. IsTracedRow m last view (item_text line) item row moment) same is, refl)
traced_on first next last view [] [] [] (m ∷ run) line item row moment are is = absurd are
traced_on first next last view [] [] (r ∷ rows) run line item row moment are is = absurd are
traced_on first next last view [] (i ∷ items) rows run line item row moment are is = absurd are
traced_on first next last view (l ∷ lines) [] rows run line item row moment are is = absurd are
traced_on first next last view (l ∷ lines) (i ∷ items) [] run line item row moment are is = absurd are
traced_on first next last view (l ∷ lines) (i ∷ items) (r ∷ rows) [] line item row moment are is = absurd are
traced_on first next last view (l ∷ lines) (i ∷ items) (r ∷ rows) (m ∷ run) line item row moment are is =
    (are.0, are.1, traced_on are.0 next last m.view lines items rows run line item row moment are.2 is)

-- of the lines and items those are left, and the ones before them have their rows
pub record IsPlayedTo (first last : Journaled) (view : View) (lines left : List (List ℕ)) (items rest : List Observed) (rows : List Row) (run : List Moment) : Type 0 where
  pub earlier : List (List ℕ)
  pub done : List Observed
  pub lines_parted : lines ≡ earlier ++ left
  pub items_parted : items ≡ done ++ rest
  pub as_many : length left ≡ length rest
  pub traced : AreTraced first last view earlier done rows run

pub nothing_played : (first : Journaled) (view : View) (lines left : List (List ℕ)) (items rest : List Observed) (rows : List Row) (run : List Moment)
    → left ≡ lines → rest ≡ items → rows ≡ [] → run ≡ [] → length lines ≡ length items → IsPlayedTo first first view lines left items rest rows run
nothing_played first view lines left items rest rows run left_is rest_is rows_are run_is many = record {
  earlier = [];
  done = [];
  lines_parted = sym left_is;
  items_parted = sym rest_is;
  as_many = ap length left_is ∙ many ∙ ap length (sym rest_is);
  traced = subst (λ r. AreTraced first first view [] [] r run) (sym rows_are) (subst (λ r. AreTraced first first view [] [] [] r) (sym run_is) refl);
}

same_tail : (a b : ℕ) → suc a ≡ suc b → a ≡ b
same_tail a b same = omega arith

-- one line more
pub one_played : (first next last : Journaled) (view : View) (lines left : List (List ℕ)) (items rest : List Observed) (rows more_rows : List Row) (run more_run : List Moment)
    (line : List ℕ) (item : Observed)
    → IsPlayedTo first next view lines (line ∷ left) items (item ∷ rest) rows run
    → AddsTracedRow next last (last_view view run) line item rows more_rows run more_run
    → IsPlayedTo first last view lines left items rest more_rows more_run
one_played first next last view lines left items rest rows more_rows run more_run line item so_far adds = record {
  earlier = so_far.earlier ++ line ∷ [];
  done = so_far.done ++ item ∷ [];
  lines_parted = so_far.lines_parted ∙ sym (append_assoc so_far.earlier (line ∷ []) left);
  items_parted = so_far.items_parted ∙ sym (append_assoc so_far.done (item ∷ []) rest);
  as_many = same_tail (length left) (length rest) so_far.as_many;
  traced = subst (λ r. AreTraced first last view (so_far.earlier ++ line ∷ []) (so_far.done ++ item ∷ []) r more_run) (sym adds.rows_are)
      (subst (λ r. AreTraced first last view (so_far.earlier ++ line ∷ []) (so_far.done ++ item ∷ []) (rows ++ adds.row ∷ []) r) (sym adds.run_is)
      (traced_on first next last view so_far.earlier so_far.done rows run line item adds.row adds.moment so_far.traced adds.is_row));
}

-- where no line is left, all have their rows
pub all_played : (first last : Journaled) (view : View) (lines left : List (List ℕ)) (items rest : List Observed) (rows : List Row) (run : List Moment)
    → IsPlayedTo first last view lines left items rest rows run → left ≡ [] → AreTraced first last view lines items rows run
all_played first last view lines left items rest rows run so_far none =
    let no_items : rest ≡ [] = nil_from_length rest (sym so_far.as_many ∙ ap length none) in
    let lines_are : lines ≡ so_far.earlier = so_far.lines_parted ∙ ap (λ l. so_far.earlier ++ l) none ∙ append-nil so_far.earlier in
    let items_are : items ≡ so_far.done = so_far.items_parted ∙ ap (λ l. so_far.done ++ l) no_items ∙ append-nil so_far.done in
    subst (λ l. AreTraced first last view l items rows run) (sym lines_are)
    (subst (λ i. AreTraced first last view so_far.earlier i rows run) (sym items_are) so_far.traced)

-- the item that comes next, in front of the others
pub next_item : (rest : List Observed) (item : Observed) → 1 ≤ length rest → item ≡ get_or rest 0 item → rest ≡ item ∷ take (length rest - 1) (drop 1 rest)
next_item [] item some is = absurd (omega (some, arith))
next_item (first ∷ others) item some is = ap (λ (i : Observed). i ∷ others) (sym is) ∙ ap (λ o. item ∷ o) (sym (take_rest (first ∷ others) 1))

-- one line more, where that line and its item come next
pub next_played : (first next last : Journaled) (view : View) (lines left others : List (List ℕ)) (items rest : List Observed) (rows more_rows : List Row) (run more_run : List Moment)
    (line : List ℕ) (item : Observed)
    → IsPlayedTo first next view lines left items rest rows run → left ≡ line ∷ others → 1 ≤ length rest → item ≡ get_or rest 0 item
    → AddsTracedRow next last (last_view view run) line item rows more_rows run more_run
    → IsPlayedTo first last view lines others items (take (length rest - 1) (drop 1 rest)) more_rows more_run
next_played first next last view lines left others items rest rows more_rows run more_run line item so_far line_is some item_is adds =
    one_played first next last view lines others items (take (length rest - 1) (drop 1 rest)) rows more_rows run more_run line item
    (subst (λ r. IsPlayedTo first next view lines (line ∷ others) items r rows run) (next_item rest item some item_is)
    (subst (λ l. IsPlayedTo first next view lines l items rest rows run) line_is so_far))
    adds
