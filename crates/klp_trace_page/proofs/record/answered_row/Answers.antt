use Rattle.klp_core.specs.Journaled.{with_room}
use Rattle.klp_trace_page.proofs.EventRowLemmas.{answered}
use Rattle.klp_trace_page.proofs.record.answered_row.Goals as goal

pub returns : goal.returns
returns g c =
    answered (with_room c.args.manager.now) c.event_row.new.manager c.args.before.now c.args.text.now c.args.answer.now c.in_ok-row.row c.compare.new.row c.in_ok-row.moment
    c.in_ok-seen.seen.items c.in_ok-row.ensures c.compare.ensures.row c.compare.ensures.seen c.compare.ensures.differs c.in_ok-seen.ensures
