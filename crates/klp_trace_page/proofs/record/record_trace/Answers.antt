use Rattle.std.proofs.Common.{length, refl, ap, arith}
use Rattle.std.specs.Str.Lines.{lines}
use Rattle.klp_trace_page.proofs.TracedLemmas.{nothing_played, next_played, all_played}
use Rattle.klp_trace_page.proofs.record.record_trace.Goals as goal

pub loop-line-init : goal.loop-line-init
loop-line-init g c =
    nothing_played c.args.manager.now c.args.opening.now (lines c.args.text.now) c.new-lines.result c.args.items.now c.args.items.now c.new.result.items c.new-2.result.items
    c.new-lines.ensures refl c.new.ensures.items c.new-2.ensures.items c.requires

pub loop-line-preserved : goal.loop-line-preserved
loop-line-preserved g c =
    let had = c.loop-line.recorded in
    let has = c.add_line.new.recorded in
    next_played c.args.manager.now c.loop-line.manager c.add_line.new.manager c.args.opening.now (lines c.args.text.now) c.loop-line.lines c.next.new.self c.args.items.now
    c.loop-line.rest.now had.rows.items has.rows.items had.run.items has.run.items c.in-Some.line.now c.item-item.result
    c.loop-line.invariant c.in-Some.ensures (omega (c.in-len1-up.len_at_least, arith)) c.item-item.is c.in_ok-add_line.ensures

pub loop-line-smaller : goal.loop-line-smaller
loop-line-smaller g c = omega (ap length c.in-Some.ensures, arith)

-- each line has its item
pub returns-in_default-rest : goal.returns-in_default-rest
returns-in_default-rest g c = absurd (omega (c.loop-line.invariant.as_many, ap length c.in-Some.ensures, c.in_default-rest.len_below, arith))

pub returns : goal.returns
returns g c =
    all_played c.args.manager.now c.loop-line.manager c.args.opening.now (lines c.args.text.now) c.loop-line.lines c.args.items.now c.loop-line.rest.now
    c.loop-line.recorded.rows.items c.loop-line.recorded.run.items c.loop-line.invariant c.in_default.ensures
