use Rattle.klp_trace_page.proofs.EventRowLemmas.{taken}
use Rattle.klp_trace_page.proofs.record.event_row.Goals as goal

pub returns : goal.returns
returns g c =
    taken c.args.manager.now c.make_room.new.self c.record_line.new.manager c.args.before.now c.args.text.now c.record_line.result c.make_room.ensures.made c.record_line.ensures
