-- What is logged is put back, record by record.
use Rattle.std.proofs.Common.{◌≡◌, List, [], ◌∷◌, ◌++◌, length, true, sym, ap, subst, ◌∙◌, arith}
use Rattle.std.proofs.lemmas.List.{length_push}
use Rattle.klp_types.specs.declared.record.Record.{Record}
use Rattle.klp_types.specs.Records.{RecordList}
use Rattle.klp_manager_state.specs.declared.state.ManagerState.{ManagerState}
use Rattle.klp_manager_state.specs.Undoing.{IsOneBack}
use Rattle.klp_manager_state.specs.Rows.{Rows, rows_in, put_back, undone, is_due, are_due}
use Rattle.klp_manager_state.proofs.EffectLemmas.{undone-append}
use Rattle.klp_manager_state.proofs.RowLemmas.{due-parts, flags_put_back}

-- the newest record, and those that are left
module _ (now : Rows) (logged left : List Record) (row : Record) (is : logged ≡ left ++ row ∷ []) where
  pub newest_undone : (after : Rows) → after ≡ put_back now row → undone after left ≡ undone now logged
  newest_undone after put = ap (λ (r : Rows). undone r left) put ∙ sym (undone-append now left (row ∷ [])) ∙ ap (undone now) (sym is)

  pub newest_is_due : are_due now logged ≡ true → is_due now row ≡ true
  newest_is_due due = (due-parts now left row (ap (are_due now) (sym is) ∙ due)).0

  pub left_are_due : (after : Rows) → after ≡ put_back now row → are_due now logged ≡ true → are_due after left ≡ true
  left_are_due after put due = ap (λ (r : Rows). are_due r left) put ∙ (due-parts now left row (ap (are_due now) (sym is) ∙ due)).1

-- the newest record was taken out of the list, and put back
pub one_back : (before after : ManagerState) (log : RecordList) (row : Record) → before.log ≡ record log { logged = log.logged ++ row ∷ [] } → rows_in after ≡ put_back (rows_in before) row
    → after.modules ≡ record before.modules { loaded = after.sites.loaded } → after.log ≡ log → length before.sites.loaded ≡ length before.sites.image.objects
    → are_due (rows_in before) before.log.logged ≡ true → IsOneBack before after
one_back before after log row is put modules same objects due =
    let logged = ap (λ (l : RecordList). l.logged) is in
    record {
      rows = ap (λ (l : RecordList). undone (rows_in after) l.logged) same ∙ newest_undone (rows_in before) before.log.logged log.logged row logged (rows_in after) put;
      due = ap (λ (l : RecordList). are_due (rows_in after) l.logged) same ∙ left_are_due (rows_in before) before.log.logged log.logged row logged (rows_in after) put due;
      modules = modules;
      objects = subst (λ (r : Rows). length r.sites.loaded ≡ length r.sites.image.objects) (sym put) (flags_put_back (rows_in before) row objects);
      log = ap (λ (l : RecordList). record l { logged = [] }) same ∙ sym (ap (λ (l : RecordList). record l { logged = [] }) is);
      fewer = omega (arith, ap length logged, length_push log.logged row, ap (λ (l : RecordList). length l.logged) same);
    }
