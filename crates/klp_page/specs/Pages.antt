-- What a page comes to over a catalog's text and a script.
use Rattle.std.specs.Prelude.{◌≡◌, ℕ, Bool, ◌<◌, List, [], ◌∷◌, ◌++◌, length, count_by, is_some, Option, None, Result}
use Rattle.klp_types.specs.declared.limits.TheConstants.{MAX_CONSOLE_LINE}
use Rattle.klp_manager_state.specs.Managed.{setting_of}
use Rattle.klp_core.specs.Journaled.{Journaled}
use Rattle.klp_catalog.specs.Catalog.{Catalog}
use Rattle.klp_console_io.specs.Lines.{lines_and_rest}
use Rattle.klp_console.specs.Lines.{lines_of}
use Rattle.klp_boot.specs.declared.fault.Fault.{Fault}
use Rattle.klp_names.specs.Names.{Names}
use Rattle.klp_timeline.specs.declared.moment.Moment.{Moment}
use Rattle.klp_timeline.specs.declared.moment.Sentence.{Sentence}
use Rattle.klp_timeline.specs.declared.moment.View.{View}
use Rattle.klp_timeline.specs.Sentences.{sentences_of}
use Rattle.klp_page.specs.Views.{IsView}
use Rattle.klp_page.specs.declared.head.Title.{Title}
use Rattle.klp_page.specs.declared.head.Differing.{Differing}
use Rattle.klp_page.specs.declared.row.Row.{Row}
use Rattle.klp_page.specs.declared.unshown.Unshown.{Unshown}
use Rattle.klp_page.specs.declared.unshown.Unshown.TheVariants.{NoMemory, LongLine, BadTrace}
use Rattle.klp_page.specs.Over.{IsShownOver, IsFaultOver, WritesOver}
use Rattle.klp_page.specs.Rows.{AreRows, last_view}
use Rattle.klp_page.specs.Text.{is_start, page_text}

abbrev pub is_refused : Row → Bool
is_refused row = row.is_refused

-- the title of a page: its name, what is known of the run beside its lines, how many lines there are and were refused, how many transitions started, and whether one goes on at the end
pub record IsTitle (title : Title) (name : List ℕ) (names : Names) (rows : List Row) (view : View) (sentences : List Sentence) (differing : Option Differing) : Type 0 where
  pub name_is : title.name.now ≡ name
  pub names_are : title.names.now ≡ names
  pub lines_are : title.lines ≡ length rows
  pub refused_are : title.refused ≡ count_by is_refused rows
  pub transitions_are : title.transitions ≡ count_by is_start sentences
  pub moves : title.is_moving ≡ is_some view.moving
  pub differing_is : title.differing ≡ differing

-- A page of rows and of what was seen with them: above the rows stands how the run ends, and what is said of it, which is all that there is to be said
pub record IsPageOfRun (catalog : Catalog) (name : List ℕ) (names : Names) (opening : View) (rows : List Row) (run : List Moment) (differing : Option Differing) (page : List ℕ) : Type 0 where
  pub drawing : List ℕ
  pub title : Title
  pub title_is : IsTitle title name names rows (last_view opening run) (sentences_of opening run) differing
  pub written : page ≡ page_text title catalog (last_view opening run) (sentences_of opening run) drawing rows

-- the page has a row for each line of the script, in order, and is made of these and of what was seen with each
pub record IsPage (booted : Journaled) (name : List ℕ) (names : Names) (script page : List ℕ) : Type 0 where
  pub opening : View
  pub run : List Moment
  pub rows : List Row
  pub left : Journaled
  pub begins : IsView (setting_of booted.managed) booted.managed.state opening
  pub shown : AreRows booted left opening (lines_of script) rows run
  pub is_page : IsPageOfRun left.managed.catalog name names opening rows run None page

-- of the lines of a script, all but the last have their rows
pub record HasRows (before after : Journaled) (opening : View) (script last : List ℕ) (rows : List Row) (run : List Moment) : Type 0 where
  pub lines : List (List ℕ)
  pub parted : lines_and_rest script ≡ lines ++ last ∷ []
  pub shown : AreRows before after opening lines rows run

-- a line of the script is too long
pub record HasLongLine (script : List ℕ) : Type 0 where
  pub earlier : List (List ℕ)
  pub long : List ℕ
  pub later : List (List ℕ)
  pub parted : lines_and_rest script ≡ earlier ++ long ∷ later
  pub too_long : MAX_CONSOLE_LINE < length long

-- why a script isn't shown: a line is too long; or want of memory
abbrev pub IsScriptFault : List ℕ → Unshown → Type 0
IsScriptFault script NoMemory = Unit {0}
IsScriptFault script LongLine = HasLongLine script
IsScriptFault script (BadTrace fault) = ⊥

-- the page shows the script with a manager that was booted over a catalog's text
abbrev pub IsPageOf : List ℕ → List ℕ → Names → List ℕ → List ℕ → Type 0
IsPageOf text name names script page = IsShownOver (λ booted shown. IsPage booted name names script shown) text page

abbrev pub IsFaultOf : List ℕ → List ℕ → Fault → Type 0
IsFaultOf text script fault = IsFaultOver (λ booted why. IsScriptFault script why) text fault

abbrev pub Writes : {A : Type 0} → List ℕ → List ℕ → Names → List ℕ → Option (List ℕ) → Option (List ℕ) → Result A Fault → Type 0
Writes text name names script before after result =
    WritesOver (λ booted shown. IsPage booted name names script shown) (λ booted why. IsScriptFault script why) text before after result
