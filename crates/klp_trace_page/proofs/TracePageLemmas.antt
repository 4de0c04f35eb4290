-- The page of a booted manager.
use Rattle.std.proofs.Common.{ℕ, List}
use Rattle.std.specs.Prelude.{Some, Result, Ok, Err, IfOk}
use Rattle.std.specs.Str.Lines.{lines}
use Rattle.klp_manager_state.specs.Managed.{setting_of}
use Rattle.klp_core.specs.Journaled.{Journaled}
use Rattle.klp_names.specs.Names.{Names}
use Rattle.klp_timeline.specs.declared.moment.Moment.{Moment}
use Rattle.klp_timeline.specs.declared.moment.View.{View}
use Rattle.klp_page.specs.Views.{IsView}
use Rattle.klp_watch.specs.declared.observed.Observed.{Observed}
use Rattle.klp_page.specs.declared.row.Row.{Row}
use Rattle.klp_page.specs.Pages.{IsPageOfRun}
use Rattle.klp_trace_page.specs.Traced.{AreTraced}
use Rattle.klp_trace_page.specs.Pages.{differing_in, IsPlayed}

pub played : {A E : Type 0} (booted left : Journaled) (name : List ℕ) (names : Names) (set_up : ℕ) (trace : List ℕ) (items : List Observed) (opening : View)
    (rows : List Row) (run : List Moment) (result : Result A E) (text : A → List ℕ)
    → IsView (setting_of booted.managed) booted.managed.state opening → AreTraced booted left opening (lines trace) items rows run
    → IfOk result (λ page. IsPageOfRun left.managed.catalog name names opening rows run (Some (differing_in set_up rows)) (text page))
    → IfOk result (λ page. IsPlayed booted name names set_up trace items (text page))
played booted left name names set_up trace items opening rows run (Ok page) text begins traced is = record {
  opening = opening;
  run = run;
  rows = rows;
  left = left;
  begins = begins;
  traced = traced;
  is_page = is;
}
played booted left name names set_up trace items opening rows run (Err fault) text begins traced is = tt
