-- When nobody may be said to lag.
use Rattle.std.proofs.Common.{◌≡◌, ◌-◌, Bool, true, List, length, Some}
use Rattle.std.specs.Prelude.{Result, Ok, Err, IfOk, slice_get}
use Rattle.klp_capture.specs.declared.capture.Capture.{Capture}
use Rattle.klp_capture_run.specs.declared.explained.Explained.{Explained}
use Rattle.klp_capture_report.specs.declared.report.TransitionReport.{TransitionReport}
use Rattle.klp_capture_report.specs.declared.report.VerdictReport.{VerdictReport}
use Rattle.klp_capture_report.specs.declared.report.VerdictReport.TheVariants.{Explained as IsExplained}
use Rattle.klp_capture_calm.specs.Calm.{IsCalm, MaySayNobodyLags}

-- what is calm of the last transition of an explained log may be said
pub may_say : {E : Type 0} (capture : Capture) (found : Explained) (verdict : VerdictReport) (transitions : List TransitionReport) (last : TransitionReport)
    (result : Result Bool E) → verdict ≡ IsExplained → slice_get transitions (length transitions - 1) ≡ Some last
    → IfOk result (λ calm. calm ≡ true → IsCalm capture found last)
    → IfOk result (λ calm. calm ≡ true → MaySayNobodyLags capture found verdict transitions)
may_say capture found verdict transitions last (Ok calm) explained is given =
    λ yes. record { explained = explained; transition = last; last = is; calm = given yes }
may_say capture found verdict transitions last (Err e) explained is given = given
