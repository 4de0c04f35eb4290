use Rattle.std.proofs.Common.{ℕ, ◌+◌, ◌<◌, [], length, take, inl, inr, refl, sym, ap, ◌∙◌, subst, arith}
use Rattle.std.proofs.lemmas.Bool.{le-leb}
use Rattle.std.proofs.lemmas.List.{length-take-le, length-replicate}
use Rattle.std.proofs.KnownBytes.{Keeps-refl}
use Rattle.std.specs.Io.KnownBytes.{Consumes}
use Rattle.klp_console_io.specs.Gathered.{Gathered}
use Rattle.klp_console.specs.Served.{Asks}
use Rattle.klp_console.proofs.ServeLemmas.{SoFar, start_at, so_far_start, so_far_on, read_failed, served_all, end_failed, hear_failed}
use Rattle.klp_console.proofs.WithdrawnLemmas.{leaves_none}
use Rattle.klp_console.proofs.console.serve.Goals as goal

pub loop-read-init : goal.loop-read-init
loop-read-init g c =
    let source = g.R.Source.supply c.args.reader.now in
    let written = g.W.Sink.written c.args.writer.now in
    let start = start_at c.args.manager.now written in
    let at_line = subst (λ line. SoFar source source start start line) (sym c.new-line.ensures) (so_far_start c.lines_add_up.ensures.none source c.args.manager.now written) in
    let at_answers = subst (λ answers. SoFar source source start (record start { said = (answers, written) }) c.new-line.result) (sym c.new-answers.ensures) at_line in
    record {
      so_far = subst (λ marks. SoFar source source start (record start { said = (c.new-answers.result, written); marks = marks }) c.new-line.result) (sym c.new-marks.ensures) at_answers;
      still = ap (λ (a : Gathered). a.has_failed) c.new-answers.ensures;
      written = ap (λ (a : Gathered). a.bytes) c.new-answers.ensures;
      unmarked = c.new-marks.ensures;
      few = omega arith;
      room = omega arith;
      long = length-replicate {A = ℕ} 4096 0;
      reads = omega arith;
      asked = omega arith;
    }

pub returns-in-Err : goal.returns-in-Err
returns-in-Err g c =
    let inv = c.loop-read.invariant in
    let source = g.R.Source.supply c.args.reader.now in
    let now = g.R.Source.supply c.loop-read.reader in
    let next = g.R.Source.supply c.read.new.self in
    let failed = c.in-Err.ensures.err in
    let asks : Asks source next = record {
      few = omega (arith, failed.reads, inv.reads, c.loop-read-test.true);
      whole_room = omega (arith, failed.reads, inv.reads, failed.asked, inv.asked, c.read.auto.buf, inv.long);
    } in
    read_failed source now next c.args.manager.now _ _ _ (leaves_none c.what_is_withdrawn_leaves_no_trace.ensures _ c.mark-for_its_clause.ensures.well_formed) inv.so_far inv.written failed.left failed.has_ended asks
    (inl (failed.failures ∙ ap (λ n. n + 1) inv.so_far.no_failure))

pub returns-in-Ok-end : goal.returns-in-Ok-end
returns-in-Ok-end g c =
    let inv = c.loop-read.invariant in
    let source = g.R.Source.supply c.args.reader.now in
    let now = g.R.Source.supply c.loop-read.reader in
    let next = g.R.Source.supply c.read.new.self in
    let given = c.in-Ok.ensures.ok in
    let none : Consumes now.left next.left [] = subst (λ n. Consumes now.left next.left (take n c.read.new.buf)) c.if-count-eq0.true given.left in
    let room : 0 < length c.read.new.buf = omega (arith, c.read.auto.buf, inv.long) in
    let at_end = given.ends c.if-count-eq0.true room in
    let asks : Asks source next = record {
      few = omega (arith, given.reads room, inv.reads, c.loop-read-test.true);
      whole_room = omega (arith, given.reads room, inv.reads, given.asked, inv.asked, c.read.auto.buf, inv.long);
    } in
    served_all source now next c.args.manager.now _ _ _ _ (leaves_none c.what_is_withdrawn_leaves_no_trace.ensures _ c.mark-for_its_clause.ensures.well_formed) inv.so_far inv.written none given.failures
    (omega (arith, given.reads room, inv.reads)) asks at_end.0 at_end.1 c.in-Ok-end.ensures.serves c.in-Ok-end.ensures.written

pub returns-in-Err-end : goal.returns-in-Err-end
returns-in-Err-end g c =
    let inv = c.loop-read.invariant in
    let source = g.R.Source.supply c.args.reader.now in
    let now = g.R.Source.supply c.loop-read.reader in
    let next = g.R.Source.supply c.read.new.self in
    let given = c.in-Ok.ensures.ok in
    let none : Consumes now.left next.left [] = subst (λ n. Consumes now.left next.left (take n c.read.new.buf)) c.if-count-eq0.true given.left in
    let room : 0 < length c.read.new.buf = omega (arith, c.read.auto.buf, inv.long) in
    let asks : Asks source next = record {
      few = omega (arith, given.reads room, inv.reads, c.loop-read-test.true);
      whole_room = omega (arith, given.reads room, inv.reads, given.asked, inv.asked, c.read.auto.buf, inv.long);
    } in
    end_failed source now next c.args.manager.now _ _ _ _ (leaves_none c.what_is_withdrawn_leaves_no_trace.ensures _ c.mark-for_its_clause.ensures.well_formed) inv.so_far inv.written none given.failures
    asks (given.ends c.if-count-eq0.true room).0 c.in-Err-end.ensures.cut.0 c.in-Err-end.ensures.cut.1 c.in-Err-end.fault c.in-Err-end.ensures.write

pub returns-in-Err-hear : goal.returns-in-Err-hear
returns-in-Err-hear g c =
    let inv = c.loop-read.invariant in
    let source = g.R.Source.supply c.args.reader.now in
    let now = g.R.Source.supply c.loop-read.reader in
    let next = g.R.Source.supply c.read.new.self in
    let given = c.in-Ok.ensures.ok in
    let room : 0 < length c.read.new.buf = omega (arith, c.read.auto.buf, inv.long) in
    let asks : Asks source next = record {
      few = omega (arith, given.reads room, inv.reads, c.loop-read-test.true);
      whole_room = omega (arith, given.reads room, inv.reads, given.asked, inv.asked, c.read.auto.buf, inv.long);
    } in
    hear_failed c.lines_add_up.ensures.next source now next c.args.manager.now _ _ _ _ c.hear.new.line (take c.in-Ok.count c.read.new.buf) (leaves_none c.what_is_withdrawn_leaves_no_trace.ensures _ c.mark-for_its_clause.ensures.well_formed) inv.so_far inv.written
    given.left given.failures asks c.in-Err-hear.fault c.in-Err-hear.ensures.hears c.in-Err-hear.ensures.written

pub loop-read-preserved : goal.loop-read-preserved
loop-read-preserved g c =
    let inv = c.loop-read.invariant in
    let source = g.R.Source.supply c.args.reader.now in
    let now = g.R.Source.supply c.loop-read.reader in
    let next = g.R.Source.supply c.read.new.self in
    let given = c.in-Ok.ensures.ok in
    let heard = c.in_default.ensures.hears in
    let room : 0 < length c.read.new.buf = omega (arith, c.read.auto.buf, inv.long) in
    record {
      so_far = so_far_on c.lines_add_up.ensures.next source now next _ _ _ _ _ (take c.in-Ok.count c.read.new.buf) inv.so_far inv.written given.left given.failures
          (given.goes_on (omega (arith, c.if-count-eq0.false))) (le-leb (length c.hear.new.line) 256 c.in_default.ensures.short) heard;
      still = heard.2.serves.still;
      written = c.in_default.ensures.written.0;
      unmarked = c.in_default.ensures.written.1;
      few = c.in_default.ensures.few;
      room = omega (arith, c.in_default.ensures.room, inv.room, given.fits, c.read.auto.buf, inv.long, length-take-le c.in-Ok.count c.read.new.buf given.fits);
      long = c.read.auto.buf ∙ inv.long;
      reads = omega (arith, given.reads room, inv.reads);
      asked = omega (arith, given.asked, inv.asked, c.read.auto.buf, inv.long);
    }

pub returns : goal.returns
returns g c =
    let inv = c.loop-read.invariant in
    let source = g.R.Source.supply c.args.reader.now in
    let now = g.R.Source.supply c.loop-read.reader in
    let asks : Asks source now = record { few = omega (arith, inv.reads); whole_room = omega (arith, inv.reads, inv.asked) } in
    read_failed source now now c.args.manager.now _ _ _ (leaves_none c.what_is_withdrawn_leaves_no_trace.ensures _ c.mark-for_its_clause.ensures.well_formed) inv.so_far inv.written (Keeps-refl now.left) refl asks (inr (inv.so_far.no_failure, inv.reads ∙ ap (λ n. (g.R.Source.supply c.args.reader.now).reads + n) (omega arith)))
