-- What a page of a trace comes to over a catalog's text.
use Rattle.std.specs.Prelude.{◌≡◌, ℕ, suc, List, [], ◌∷◌, count_by, Bool, Option, Some, Result, if◌then◌else◌}
use Rattle.std.specs.Str.Lines.{lines}
use Rattle.klp_manager_state.specs.Managed.{setting_of}
use Rattle.klp_core.specs.Journaled.{Journaled}
use Rattle.klp_names.specs.Names.{Names}
use Rattle.klp_boot.specs.declared.fault.Fault.{Fault}
use Rattle.klp_timeline.specs.declared.moment.Moment.{Moment}
use Rattle.klp_timeline.specs.declared.moment.View.{View}
use Rattle.klp_trace.specs.Traces.{IsTraceOf, IsTraceFault}
use Rattle.klp_page.specs.Views.{IsView}
use Rattle.klp_watch.specs.declared.observed.Observed.{Observed}
use Rattle.klp_page.specs.declared.head.Differing.{Differing}
use Rattle.klp_page.specs.declared.row.Row.{Row}
use Rattle.klp_page.specs.Pages.{IsPageOfRun}
use Rattle.klp_page.specs.declared.unshown.Unshown.{Unshown}
use Rattle.klp_page.specs.declared.unshown.Unshown.TheVariants.{NoMemory, LongLine, BadTrace}
use Rattle.klp_page.specs.Over.{IsShownOver, IsFaultOver, WritesOver}
use Rattle.klp_trace_page.specs.Traced.{AreTraced}

abbrev pub differs : Row → Bool
differs row = row.differs

-- the number of the first row at which the kernel differs from the rules, if the first of these has this number; 0 if there is none
abbrev pub first_from : ℕ → List Row → ℕ
first_from number [] = 0
first_from number (row ∷ rows) = if row.differs then number else first_from (suc number) rows

-- so many of the first lines were made up
abbrev pub differing_in : ℕ → List Row → Differing
differing_in set_up rows = record { rows = count_by differs rows; first = first_from 1 rows; set_up = set_up }

-- the page of these items has a row for each line of the trace, in order, and says at how many of them the kernel differs from the rules
pub record IsPlayed (booted : Journaled) (name : List ℕ) (names : Names) (set_up : ℕ) (trace : List ℕ) (items : List Observed) (page : List ℕ) : Type 0 where
  pub opening : View
  pub run : List Moment
  pub rows : List Row
  pub left : Journaled
  pub begins : IsView (setting_of booted.managed) booted.managed.state opening
  pub traced : AreTraced booted left opening (lines trace) items rows run
  pub is_page : IsPageOfRun left.managed.catalog name names opening rows run (Some (differing_in set_up rows)) page

-- the items are those that the trace's text means
pub record IsTracePage (booted : Journaled) (name : List ℕ) (names : Names) (set_up : ℕ) (trace page : List ℕ) : Type 0 where
  pub items : List Observed
  pub times : List (Option ℕ)
  pub read : IsTraceOf booted trace items times
  pub played : IsPlayed booted name names set_up trace items page

-- why a booted manager shows no page: a line of the trace is at fault; or want of memory
abbrev pub IsTraceUnshown : Journaled → List ℕ → Unshown → Type 0
IsTraceUnshown booted trace NoMemory = Unit {0}
IsTraceUnshown booted trace LongLine = ⊥
IsTraceUnshown booted trace (BadTrace fault) = IsTraceFault booted (lines trace) fault.line fault.kind

-- the page shows the trace beside a manager that was booted over a catalog's text
abbrev pub IsTracePageOf : List ℕ → List ℕ → Names → ℕ → List ℕ → List ℕ → Type 0
IsTracePageOf text name names set_up trace page = IsShownOver (λ booted shown. IsTracePage booted name names set_up trace shown) text page

abbrev pub IsFaultOf : List ℕ → List ℕ → Fault → Type 0
IsFaultOf text trace fault = IsFaultOver (λ booted why. IsTraceUnshown booted trace why) text fault

abbrev pub Writes : {A : Type 0} → List ℕ → List ℕ → Names → List ℕ → Option (List ℕ) → Option (List ℕ) → Result A Fault → Type 0
Writes text name names trace before after result =
    WritesOver (λ booted shown. IsTracePage booted name names 0 trace shown) (λ booted why. IsTraceUnshown booted trace why) text before after result
