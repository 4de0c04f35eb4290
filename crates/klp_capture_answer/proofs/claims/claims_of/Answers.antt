use Rattle.std.proofs.Common.{List, subst}
use Rattle.klp_capture_report.specs.declared.report.TransitionReport.{TransitionReport}
use Rattle.klp_capture_calm.specs.Calm.{MaySayNobodyLags}
use Rattle.klp_capture_answer.proofs.claims.claims_of.Goals as goal

-- what is judged calm are the transitions that are claimed
pub returns-clause-calm : goal.returns-clause-calm
returns-clause-calm c = λ same yes.
    subst (λ (list : List TransitionReport). MaySayNobodyLags c.args.capture.now c.args.found.now c.verdict_on-verdict.result list)
    c.deref-2.ensures.value (c.in_ok-nobody_lags.ensures same yes)
