use Rattle.std.proofs.Common.{sym, subst}
use Rattle.std.specs.Prelude.{IfOk}
use Rattle.klp_model.specs.declared.seen.Seen.{Seen}
use Rattle.klp_watch.specs.declared.observed.Observed.TheVariants.{Seen as Item}
use Rattle.klp_trace_page.specs.Traced.{IsTracedRow}
use Rattle.klp_trace_page.proofs.EventRowLemmas.{taken_alone}
use Rattle.klp_trace_page.proofs.record.seen_row.Goals as goal

pub returns-in-Event : goal.returns-in-Event
returns-in-Event g c =
    subst (λ (seen : Seen). IfOk c.event_row.result (λ made. IsTracedRow c.args.manager.now c.event_row.new.manager c.args.before.now c.args.text.now (Item seen) made.0 made.1))
    (sym c.in-Event.is)
    (taken_alone c.args.manager.now c.event_row.new.manager c.args.before.now c.args.text.now c.event_row.result c.event_row.ensures)
