-- What a page promises of the run that it shows.
use Rattle.std.specs.Prelude.{◌≡◌, ℕ, suc, List, [], ◌∷◌, ◌++◌, Option, Some, Contains, slice_get, Ok}
use Rattle.klp_model.specs.Task.{task_at}
use Rattle.klp_catalog_text.specs.Plan.{Plan}
use Rattle.klp_catalog_text.specs.Text.{plan_of}
use Rattle.klp_manager_state.specs.Managed.{setting_of}
use Rattle.klp_core.specs.Journaled.{Journaled}
use Rattle.klp_console.specs.Answered.{Answer, IsAnswered}
use Rattle.klp_console.specs.Lines.{lines_of}
use Rattle.klp_names.specs.Names.{Names}
use Rattle.klp_boot.specs.Booted.{IsBootedOver}
use Rattle.klp_story.specs.End.{first_text}
use Rattle.klp_story.specs.Sentences.{story_text}
use Rattle.klp_timeline.specs.declared.moment.Said.TheVariants.{Slept}
use Rattle.klp_timeline.specs.declared.moment.Sentence.{Sentence}
use Rattle.klp_timeline.specs.declared.moment.Sleepers.{Sleepers}
use Rattle.klp_timeline.specs.declared.moment.Stay.{Stay}
use Rattle.klp_timeline.specs.declared.moment.View.{View}
use Rattle.klp_timeline.specs.Telling.{Spans, IsShown}
use Rattle.klp_page.specs.Views.{IsView, stay_in}
use Rattle.klp_page.specs.declared.head.Title.{Title}
use Rattle.klp_page.specs.Text.{all_refused, opening_text}

-- a manager for each line, which answered it and was left by it, each by the one before
abbrev pub AreLeft : Journaled → List (List ℕ) → List Journaled → Type 0
AreLeft before [] [] = Unit {0}
AreLeft before (line ∷ lines) (after ∷ managers) = ((answer : Answer) × IsAnswered before after line answer) × AreLeft after lines managers
AreLeft before lines managers = ⊥

abbrev pub last_left : Journaled → List Journaled → Journaled
last_left before [] = before
last_left before (after ∷ managers) = last_left after managers

-- why it matters where a task of the manager sleeps: it holds the transition up, or its code isn't called now
abbrev pub stay_now : Journaled → ℕ → Option Stay
stay_now manager task = stay_in (setting_of manager.managed) manager.managed.state (task_at manager.managed.state.tasks task)

-- whoever holds the transition up after any line, or sleeps in code that isn't called now, is named by a sentence that spans the line
abbrev pub IsEachHoldShown : List Journaled → List Sentence → Type 0
IsEachHoldShown managers sentences = (index task : ℕ) (manager : Journaled) (stay : Stay) → slice_get managers index ≡ Some manager
    → stay_now manager task ≡ Some stay → IsShown sentences task stay (suc index)

-- and after each line that a sentence spans, each task that it names does what it says
abbrev pub IsNoHoldMadeUp : List Journaled → List Sentence → Type 0
IsNoHoldMadeUp managers sentences = (from index task : ℕ) (manager : Journaled) (sleepers : Sleepers) → Contains sentences (record { line = from; said = Slept sleepers })
    → Contains sleepers.tasks task → Spans from sleepers (suc index) → slice_get managers index ≡ Some manager → stay_now manager task ≡ Some sleepers.stay

-- the text begins with this one
pub record Begins (text first : List ℕ) : Type 0 where
  pub behind : List ℕ
  pub is : text ≡ first ++ behind

-- somewhere in the text stands this one
pub record HasPart (text part : List ℕ) : Type 0 where
  pub before : List ℕ
  pub behind : List ℕ
  pub is : text ≡ before ++ (part ++ behind)

-- The page's first line tells how the run ends, by the manager that the last line left. Its sentences tell of each hold after each line, and of no
-- other. Where they are many, `shown` of them stand on the page, with each that lasts to the end
pub record IsTrueTo (booted : Journaled) (names : Names) (script page : List ℕ) : Type 0 where
  pub managers : List Journaled
  pub left : AreLeft booted (lines_of script) managers
  pub sentences : List Sentence
  pub shown : IsEachHoldShown managers sentences
  pub true_are : IsNoHoldMadeUp managers sentences
  pub last : View
  pub seen_last : IsView (setting_of (last_left booted managers).managed) (last_left booted managers).managed.state last
  pub title : Title
  pub first_line : Begins page (opening_text title ++ first_text names (last_left booted managers).managed.catalog last sentences (all_refused title))
  pub story : HasPart page (story_text names (last_left booted managers).managed.catalog sentences)

-- the same over the catalog's text: a manager was booted over its plan
pub record IsTrueOver (text : List ℕ) (names : Names) (script page : List ℕ) : Type 0 where
  pub plan : Plan
  pub planned : plan_of text ≡ Ok plan
  pub booted : Journaled
  pub is_booted : IsBootedOver plan booted
  pub is_true : IsTrueTo booted names script page
