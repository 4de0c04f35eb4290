-- Who holds a transition up behind a trace: the rules' own answer in the state that the trace leads to.
use Rattle.std.specs.Prelude.{◌≡◌, ℕ, suc, List, [], ◌∷◌, ◌++◌, Option, Some, None, Ok, IfSome}
use Rattle.klp_catalog_text.specs.Plan.{Plan}
use Rattle.klp_catalog_text.specs.Text.{plan_of}
use Rattle.klp_manager_state.specs.Managed.{Managed, setting_of}
use Rattle.klp_core.specs.Journaled.{Journaled}
use Rattle.klp_core.specs.Holders.{holders}
use Rattle.klp_core.specs.declared.holders.Lag.{Lag}
use Rattle.klp_core.specs.declared.holders.Lag.TheVariants.{Holds}
use Rattle.klp_watch.specs.declared.observed.Observed.{Observed}
use Rattle.klp_watch.specs.ComparedWhole.{AreAllSo}
use Rattle.klp_trace.specs.Traces.{IsTraceOf}
use Rattle.klp_program.specs.declared.verdict.Verdict.{Verdict}
use Rattle.klp_program.specs.Watches.{IsVerdict}
use Rattle.klp_boot.specs.Booted.{IsBootedOver}
use Rattle.klp_capture_run.specs.declared.holders.Holder.{Holder}

-- each item is as the rules say, and in the state behind them tasks lag so
pub record LagBehind (before : Managed) (items : List Observed) (lags : List (Option Lag)) : Type 0 where
  pub left : Managed
  pub so : AreAllSo before left items
  pub lags_are : lags ≡ holders (setting_of left) left.state

-- the same of the items of a trace
pub record LagBehindTrace (booted : Journaled) (trace : List ℕ) (lags : List (Option Lag)) : Type 0 where
  pub items : List Observed
  pub times : List (Option ℕ)
  pub read : IsTraceOf booted trace items times
  pub behind : LagBehind booted.managed items lags

-- the trace is judged so by a booted manager; and if who lags is told, they lag behind the trace
pub record IsJudgement (booted : Journaled) (trace : List ℕ) (verdict : Verdict) (lags : Option (List (Option Lag))) : Type 0 where
  pub verdict_is : IsVerdict booted trace verdict
  pub behind : IfSome lags (LagBehindTrace booted trace)

-- the same of a manager that is booted over a plan
pub record LagOverPlan (plan : Plan) (trace : List ℕ) (lags : List (Option Lag)) : Type 0 where
  pub booted : Journaled
  pub boots : IsBootedOver plan booted
  pub behind : LagBehindTrace booted trace lags

-- the same of the plan of a catalog's text
pub record LagOver (catalog trace : List ℕ) (lags : List (Option Lag)) : Type 0 where
  pub plan : Plan
  pub plan_is : plan_of catalog ≡ Ok plan
  pub over : LagOverPlan plan trace lags

abbrev pub holder_at : ℕ → Option Lag → List Holder
holder_at number (Some (Holds version)) = record { number = number; version = version } ∷ []
holder_at number lag = []

-- the tasks that hold the transition up; the first of these tasks has this number
abbrev pub holders_from : ℕ → List (Option Lag) → List Holder
holders_from number [] = []
holders_from number (lag ∷ lags) = holder_at number lag ++ holders_from (suc number) lags

abbrev pub holders_in : Option (List (Option Lag)) → List Holder
holders_in None = []
holders_in (Some lags) = holders_from 0 lags
