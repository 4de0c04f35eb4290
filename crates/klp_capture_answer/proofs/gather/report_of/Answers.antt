use Rattle.std.proofs.Common.{sym, ◌∙◌}
use Rattle.klp_capture_answer.proofs.gather.report_of.Goals as goal

-- the report says of the replay's holders what is claimed of them
pub returns-clause-calm : goal.returns-clause-calm
returns-clause-calm c = λ yes.
    rw (c.report_with.ensures.verdict, c.report_with.ensures.transitions)
    (c.in_ok-claims.ensures.calm (c.deref.ensures.value ∙ c.in_ok-holding.ensures) (sym c.report_with.ensures.nobody_lags ∙ yes))
