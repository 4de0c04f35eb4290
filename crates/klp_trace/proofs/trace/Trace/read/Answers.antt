use Rattle.std.proofs.Common.{ℕ, List, subst}
use Rattle.std.specs.Str.Lines.{lines}
use Rattle.klp_trace.proofs.TraceLemmas.{IsReadTo, one_read, put_behind}
use Rattle.klp_trace.proofs.trace.Trace.read.Goals as goal

pub loop-line-preserved : goal.loop-line-preserved
loop-line-preserved g c =
    let all = lines c.args.text.now in
    let manager = c.args.manager.now in
    let line = c.in-Some.line.now in
    let items = c.loop-line.items.items in
    let times = c.loop-line.times.items in
    let last = c.loop-line.last in
    let so_far = subst (λ (left : List (List ℕ)). IsReadTo manager all left items times last) c.in-Some.ensures c.loop-line.invariant in
    let more = put_behind manager last line c.entry_behind-read.result c.take.result items c.take.new.items.items times c.take.new.times.items c.in-Ok.time
    c.entry_behind-read.ensures.entry c.take.ensures c.in-Ok.is in
    one_read manager all c.next.new.self items c.take.new.items.items times c.take.new.times.items last c.in-Ok.time line so_far more
