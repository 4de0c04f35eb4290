-- A row that stands next is appended, and what is shown then goes on where the table before it ended.
use Rattle.std.proofs.Common.{◌≡◌, [], ◌∷◌, ◌++◌, length, Some, Ok, refl, ap, sym, subst, ◌∙◌}
use Rattle.klp_types.specs.Setting.{Setting}
use Rattle.klp_model.specs.State.{State}
use Rattle.klp_model.specs.declared.event.Event.{Event}
use Rattle.klp_model.specs.declared.event.Reply.{Reply}
use Rattle.klp_model.specs.Legal.{History, IsLegal, state_after_history}
use Rattle.klp_model.specs.Run.{answer, next}
use Rattle.klp_model.proofs.LegalLemmas.{legal_then_more}
use Rattle.logbook.specs.Pages.{Book}
use Rattle.klp_live.specs.Boards.{OnBoard}
use Rattle.klp_live.specs.Dispatch.{IsDispatch, IsStep, changed}
use Rattle.klp_live.specs.Admitting.{IsShown}
use Rattle.klp_live.specs.Shown.{IsTable, Follows, with_news}
use Rattle.klp_live.specs.declared.published.Published.{Published}
use Rattle.klp_live.specs.declared.published.News.{News}

state_snoc : (setting : Setting) (base : State) (history : History) (row : Event × Reply)
    → state_after_history setting base (history ++ row ∷ []) ≡ next setting (state_after_history setting base history) row.0
state_snoc setting base [] row = refl
state_snoc setting base (first ∷ history) row = state_snoc setting (next setting base first.0) history row

-- what is told of the row
pub record Announces (news : News) (x : Published) (list : History) (row : Event × Reply) : Type 0 where
  pub rows : news.rows ≡ length (list ++ row ∷ [])
  pub log : news.seen.log ≡ list ++ row ∷ []
  pub book : news.seen.book ≡ x.seen.book

pub follows_next : (setting : Setting) (base : State) (x : Published) (list : History) (row : Event × Reply) (news : News)
    → IsTable setting base x → x.seen.log ≡ list → answer setting (state_after_history setting base list) row.0 ≡ Ok row.1
    → IsStep setting (state_after_history setting base list) row.0 news.change → Announces news x list row → Follows setting base x (with_news x (Some news))
follows_next setting base x list row news table is answered step has_effect =
    let before : IsDispatch setting (state_after_history setting base list) x.table =
    subst (λ (l : History). IsDispatch setting (state_after_history setting base l) x.table) is table.table in
    let after : IsDispatch setting (state_after_history setting base (list ++ row ∷ [])) (changed x.table news.change) =
    subst (λ (s : State). IsDispatch setting s (changed x.table news.change)) (sym (state_snoc setting base list row)) (step x.table before) in
    record {
      table = record {
        legal = subst (IsLegal setting base) (sym has_effect.log) (legal_then_more setting base list row.0 row.1 (subst (IsLegal setting base) is table.legal) answered);
        table = subst (λ (l : History). IsDispatch setting (state_after_history setting base l) (changed x.table news.change)) (sym has_effect.log) after;
        rows = has_effect.rows ∙ ap length (sym has_effect.log);
      };
      book = sym has_effect.book;
      rows = (row ∷ [], ap (λ (l : History). l ++ row ∷ []) is ∙ sym has_effect.log);
    }

pub shown_next : (setting : Setting) (base : State) (book : Book) (x : Published) (list : History) (row : Event × Reply) (news : News) (board : OnBoard) (new : History)
    → IsTable setting base x → x.seen.log ≡ list → x.seen.book ≡ book → answer setting (state_after_history setting base list) row.0 ≡ Ok row.1
    → IsStep setting (state_after_history setting base list) row.0 news.change → Announces news x list row → new ≡ list ++ row ∷ []
    → board ≡ record { value = with_news x (Some news); pending = [] } → IsShown setting base book board new
shown_next setting base book x list row news board new table is of answered step has_effect grown there =
    let follows = follows_next setting base x list row news table is answered step has_effect in
    let shown : IsShown setting base book (record { value = with_news x (Some news); pending = [] }) new =
    record { table = follows.table; list_is = has_effect.log ∙ sym grown; book_is = has_effect.book ∙ of; done = refl } in
    subst (λ (b : OnBoard). IsShown setting base book b new) (sym there) shown
