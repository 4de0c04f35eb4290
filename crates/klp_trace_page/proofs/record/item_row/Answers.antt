use Rattle.std.proofs.Common.{sym, subst}
use Rattle.std.specs.Prelude.{IfOk}
use Rattle.klp_watch.specs.declared.observed.Observed.{Observed}
use Rattle.klp_trace_page.specs.Traced.{IsTracedRow}
use Rattle.klp_trace_page.proofs.record.item_row.Goals as goal

pub returns-in-Seen : goal.returns-in-Seen
returns-in-Seen g c =
    subst (λ (item : Observed). IfOk c.seen_row.result (λ made. IsTracedRow c.args.manager.now c.seen_row.new.manager c.args.before.now c.args.text.now item made.0 made.1))
    (sym c.in-Seen.is) c.seen_row.ensures

pub returns-in-Answered : goal.returns-in-Answered
returns-in-Answered g c =
    subst (λ (item : Observed). IfOk c.answered_row.result (λ made. IsTracedRow c.args.manager.now c.answered_row.new.manager c.args.before.now c.args.text.now item made.0 made.1))
    (sym c.in-Answered.is) c.answered_row.ensures
