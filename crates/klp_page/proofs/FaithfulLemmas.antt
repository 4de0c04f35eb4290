-- What a page promises of its run.
use Rattle.std.proofs.Common.{◌≡◌, ℕ, zero, suc, ◌<◌, List, [], ◌∷◌, ◌++◌, length, Some, refl, sym, ap, subst, ◌∙◌, append_assoc, arith}
use Rattle.std.proofs.lemmas.Option.{same_Some, none-some}
use Rattle.std.specs.Prelude.{slice_get}
use Rattle.klp_catalog.specs.Catalog.{Catalog}
use Rattle.klp_manager_state.specs.Managed.{setting_of}
use Rattle.klp_core.specs.Journaled.{Journaled}
use Rattle.klp_console.specs.Lines.{lines_of}
use Rattle.klp_story.specs.End.{first_text, end_text}
use Rattle.klp_story.specs.Sentences.{story_text}
use Rattle.klp_timeline.specs.declared.moment.Moment.{Moment}
use Rattle.klp_timeline.specs.declared.moment.Said.TheVariants.{Slept}
use Rattle.klp_timeline.specs.declared.moment.Sentence.{Sentence}
use Rattle.klp_timeline.specs.declared.moment.View.{View}
use Rattle.klp_timeline.specs.Sentences.{sentences_of}
use Rattle.klp_timeline.specs.Telling.{seen_after, IsQuiet}
use Rattle.klp_timeline.proofs.TellingLemmas.{no_sleeper_left_out, none_made_up}
use Rattle.klp_page.specs.Views.{IsView}
use Rattle.klp_page.proofs.StayLemmas.{stay_seen, quiet_at_first}
use Rattle.klp_page.specs.declared.head.Title.{Title}
use Rattle.klp_page.specs.declared.row.Row.{Row}
use Rattle.klp_page.specs.Faithful.{AreLeft, last_left, stay_now, Begins, HasPart, IsTrueTo, IsTrueOver, IsEachHoldShown, IsNoHoldMadeUp}
use Rattle.klp_names.specs.Names.{Names}
use Rattle.klp_page.specs.Pages.{IsPage, IsPageOf}
use Rattle.klp_page.specs.Rows.{AreRows, last_view}
use Rattle.klp_page.specs.Text.{all_refused, opening_text, front_text, story_and_drawing, page_text}

-- what a moment shows of each manager
abbrev pub AreShown : List Journaled → List Moment → Type 0
AreShown [] [] = Unit {0}
AreShown (manager ∷ managers) (moment ∷ run) = IsView (setting_of manager.managed) manager.managed.state moment.view × AreShown managers run
AreShown managers run = ⊥

-- the managers of rows
pub record AreServed (before after : Journaled) (view : View) (lines : List (List ℕ)) (run : List Moment) : Type 0 where
  pub managers : List Journaled
  pub left : AreLeft before lines managers
  pub last : last_left before managers ≡ after
  pub shown : AreShown managers run

served : (before after : Journaled) (view : View) (lines : List (List ℕ)) (rows : List Row) (run : List Moment) → AreRows before after view lines rows run
    → AreServed before after view lines run
served before after view [] [] [] are = record { managers = []; left = tt; last = sym are; shown = tt }
served before after view [] [] (moment ∷ run) are = absurd are
served before after view [] (row ∷ rows) run are = absurd are
served before after view (line ∷ lines) [] run are = absurd are
served before after view (line ∷ lines) (row ∷ rows) [] are = absurd are
served before after view (line ∷ lines) (row ∷ rows) (moment ∷ run) are =
    let later = served are.0 after moment.view lines rows run are.2 in
    record {
      managers = are.0 ∷ later.managers;
      left = ((are.1.served.answer, are.1.served.answered), later.left);
      last = later.last;
      shown = (are.1.served.seen, later.shown);
    }

-- what is seen after a line is the manager's
seen_is : (managers : List Journaled) (run : List Moment) (index task : ℕ) (manager : Journaled) → AreShown managers run
    → slice_get managers index ≡ Some manager → seen_after run index task ≡ stay_now manager task
seen_is [] [] index task manager are is = absurd (none-some manager is)
seen_is [] (moment ∷ run) index task manager are is = absurd are
seen_is (own ∷ managers) [] index task manager are is = absurd are
seen_is (own ∷ managers) (moment ∷ run) zero task manager are is =
    stay_seen (setting_of own.managed) own.managed.state moment.view task are.0 ∙ ap (λ (m : Journaled). stay_now m task) (same_Some own manager is)
seen_is (own ∷ managers) (moment ∷ run) (suc index) task manager are is = seen_is managers run index task manager are.1 is

-- there is a moment for each manager
within : (managers : List Journaled) (run : List Moment) (index : ℕ) (manager : Journaled) → AreShown managers run
    → slice_get managers index ≡ Some manager → index < length run
within [] [] index manager are is = absurd (none-some manager is)
within [] (moment ∷ run) index manager are is = absurd are
within (own ∷ managers) [] index manager are is = absurd are
within (own ∷ managers) (moment ∷ run) zero manager are is = omega arith
within (own ∷ managers) (moment ∷ run) (suc index) manager are is = more (within managers run index manager are.1 is)
  where
    more : index < length run → suc index < suc (length run)
    more lt = omega arith

-- the last view is that of the last manager
last_is : (before : Journaled) (view : View) (managers : List Journaled) (run : List Moment) → IsView (setting_of before.managed) before.managed.state view
    → AreShown managers run → IsView (setting_of (last_left before managers).managed) (last_left before managers).managed.state (last_view view run)
last_is before view [] [] is are = is
last_is before view [] (moment ∷ run) is are = absurd are
last_is before view (own ∷ managers) [] is are = absurd are
last_is before view (own ∷ managers) (moment ∷ run) is are = last_is own moment.view managers run are.0 are.1

-- what is in a text is in a longer one
begins_on : (a b first : List ℕ) → Begins a first → Begins (a ++ b) first
begins_on a b first begins = record { behind = begins.behind ++ b; is = ap (λ t. t ++ b) begins.is ∙ append_assoc first begins.behind b }

begins_behind : (a b first : List ℕ) → Begins b first → Begins (a ++ b) (a ++ first)
begins_behind a b first begins = record { behind = begins.behind; is = ap (λ t. a ++ t) begins.is ∙ sym (append_assoc a first begins.behind) }

begins_itself : (a b : List ℕ) → Begins (a ++ b) a
begins_itself a b = record { behind = b; is = refl }

part_on : (a b part : List ℕ) → HasPart a part → HasPart (a ++ b) part
part_on a b part has = record {
  before = has.before;
  behind = has.behind ++ b;
  is = ap (λ t. t ++ b) has.is ∙ append_assoc has.before (part ++ has.behind) b ∙ ap (λ t. has.before ++ t) (append_assoc part has.behind b);
}

part_behind : (a b part : List ℕ) → HasPart b part → HasPart (a ++ b) part
part_behind a b part has = record {
  before = a ++ has.before;
  behind = has.behind;
  is = ap (λ t. a ++ t) has.is ∙ sym (append_assoc a has.before (part ++ has.behind));
}

part_first : (a b : List ℕ) → HasPart (a ++ b) a
part_first a b = record { before = []; behind = b; is = refl }

-- a page begins with how the run ends
front_begins : (title : Title) (catalog : Catalog) (view : View) (sentences : List Sentence) (picture : List ℕ) (rows : List Row)
    → Begins (page_text title catalog view sentences picture rows) (opening_text title ++ first_text title.names.now catalog view sentences (all_refused title))
unfolding front_text
front_begins title catalog view sentences picture rows =
    let first = first_text title.names.now catalog view sentences (all_refused title) in
    begins_on _ _ _ (begins_on _ _ _ (begins_on _ _ _
    (begins_on _ _ _ (begins_on _ _ _ (begins_on _ _ _ (begins_on _ _ _
    (begins_behind (opening_text title) (end_text title.names.now catalog view sentences (all_refused title)) first
    (begins_on _ _ _ (begins_on _ _ _ (begins_on _ _ _ (begins_itself first _)))))))))))

-- and has the sentences
story_part : (title : Title) (catalog : Catalog) (view : View) (sentences : List Sentence) (picture : List ℕ) (rows : List Row)
    → HasPart (page_text title catalog view sentences picture rows) (story_text title.names.now catalog sentences)
unfolding story_and_drawing
story_part title catalog view sentences picture rows =
    part_on _ _ _ (part_on _ _ _ (part_behind (front_text title catalog view sentences) (story_and_drawing title.names.now catalog sentences rows picture) (story_text title.names.now catalog sentences)
    (part_on _ _ _ (part_on _ _ _ (part_on _ _ _ (part_first (story_text title.names.now catalog sentences) _))))))

shown_of_managers : (opening : View) (managers : List Journaled) (run : List Moment) → IsQuiet opening → AreShown managers run
    → IsEachHoldShown managers (sentences_of opening run)
shown_of_managers opening managers run quiet are = λ index task manager stay is stays.
    no_sleeper_left_out opening run quiet index task stay (seen_is managers run index task manager are is ∙ stays)

true_of_managers : (opening : View) (managers : List Journaled) (run : List Moment) → AreShown managers run
    → IsNoHoldMadeUp managers (sentences_of opening run)
true_of_managers opening managers run are = λ from index task manager sleepers among names spans is.
    sym (seen_is managers run index task manager are is)
    ∙ none_made_up opening run (record { line = from; said = Slept sleepers }) among task index names (within managers run index manager are is) spans

true_to : (booted : Journaled) (name : List ℕ) (names : Names) (script page : List ℕ) → (is : IsPage booted name names script page) → IsQuiet is.opening
    → IsTrueTo booted names script page
true_to booted name names script page is quiet =
    let s = served booted is.left is.opening (lines_of script) is.rows is.run is.shown in
    let sentences = sentences_of is.opening is.run in
    let last = last_view is.opening is.run in
    let title = is.is_page.title in
    record {
      managers = s.managers;
      left = s.left;
      sentences = sentences;
      shown = shown_of_managers is.opening s.managers is.run quiet s.shown;
      true_are = true_of_managers is.opening s.managers is.run s.shown;
      last = last;
      seen_last = last_is booted is.opening s.managers is.run is.begins s.shown;
      title = title;
      first_line = subst (λ (m : Journaled). Begins page (opening_text title ++ first_text names m.managed.catalog last sentences (all_refused title))) (sym s.last)
          (subst (λ (n : Names). Begins page (opening_text title ++ first_text n is.left.managed.catalog last sentences (all_refused title))) is.is_page.title_is.names_are
          (subst (λ text. Begins text (opening_text title ++ first_text title.names.now is.left.managed.catalog last sentences (all_refused title))) (sym is.is_page.written)
          (front_begins title is.left.managed.catalog last sentences is.is_page.drawing is.rows)));
      story = subst (λ (m : Journaled). HasPart page (story_text names m.managed.catalog sentences)) (sym s.last)
          (subst (λ (n : Names). HasPart page (story_text n is.left.managed.catalog sentences)) is.is_page.title_is.names_are
          (subst (λ text. HasPart text (story_text title.names.now is.left.managed.catalog sentences)) (sym is.is_page.written)
          (story_part title is.left.managed.catalog last sentences is.is_page.drawing is.rows)));
    }

pub true_over : (text name : List ℕ) (names : Names) (script page : List ℕ) → IsPageOf text name names script page → IsTrueOver text names script page
true_over text name names script page is =
    let booted = is.booted in
    let shown = is.is_page in
    let quiet = quiet_at_first (setting_of booted.managed) shown.opening
    (subst (λ state. IsView (setting_of booted.managed) state shown.opening) is.is_booted.state shown.begins)
    in
    record {
      plan = is.plan;
      planned = is.planned;
      booted = booted;
      is_booted = is.is_booted;
      is_true = true_to booted name names script page shown quiet.0;
    }
