use Rattle.std.proofs.Common.{◌-◌, [], sym, subst, ◌∙◌, arith}
use Rattle.std.proofs.lemmas.Bool.{both_ways}
use Rattle.klp_console_io.specs.Gathered.{Gathered}
use Rattle.klp_console_io.specs.Marks.{events_at_cut}
use Rattle.klp_console_io.specs.Says.{Says}
use Rattle.klp_console_io.specs.Written.{Written}
use Rattle.klp_console.specs.Back.{IsTakenBack}
use Rattle.klp_console.specs.Said.{Ahead}
use Rattle.klp_console.proofs.SaidLemmas.{held_falls}
use Rattle.klp_console.proofs.AheadLemmas.{hold, ahead_written, flush_cut}
use Rattle.klp_console.proofs.back.write_out.Goals as goal

pub take_back-requires : goal.take_back-requires
take_back-requires g c =
    let written = g.W.Sink.written c.args.writer.now in
    let said : Gathered × Written = (c.flush.new.self, g.W.Sink.written c.flush.new.writer) in
    let says = subst (λ (a : Gathered). Says (a, written) said []) c.hold-gathered.ensures.held c.flush.ensures.says in
    omega (arith, held_falls (hold (c.args.answers.now, written)) said [] says c.requires.still, c.hold-gathered.ensures.result)

pub returns-then-has_failed-clause-comes : goal.returns-then-has_failed-clause-comes
returns-then-has_failed-clause-comes g c =
    let written = g.W.Sink.written c.args.writer.now in
    let said : Gathered × Written = (c.flush.new.self, g.W.Sink.written c.flush.new.writer) in
    let says = subst (λ (a : Gathered). Says (a, written) said []) c.hold-gathered.ensures.held c.flush.ensures.says in
    let failed = sym c.has_failed.ensures ∙ c.if-has_failed.true in
    let back = subst (λ n. IsTakenBack c.args.manager.now c.take_back.new.manager (events_at_cut (n - c.flush.new.self.held) c.args.marks.now)) c.hold-gathered.ensures.result c.take_back.ensures in
    λ before lines served ahead. (
      λ still. absurd (both_ways _ still failed),
      λ same. flush_cut before (record { manager = c.args.manager.now; served = served; said = (c.args.answers.now, written); marks = c.args.marks.now })
          (record { manager = c.take_back.new.manager; served = served; said = said; marks = c.args.marks.now }) lines ahead says failed back,
    )

pub returns-else-has_failed-clause-comes : goal.returns-else-has_failed-clause-comes
returns-else-has_failed-clause-comes g c =
    let written = g.W.Sink.written c.args.writer.now in
    let said : Gathered × Written = (c.flush.new.self, g.W.Sink.written c.flush.new.writer) in
    let says = subst (λ (a : Gathered). Says (a, written) said []) c.hold-gathered.ensures.held c.flush.ensures.says in
    let still = sym c.has_failed.ensures ∙ c.if-has_failed.false in
    λ before lines served ahead. (
      λ same. subst (λ marks. Ahead before (record { manager = c.args.manager.now; served = served; said = said; marks = marks }) lines) (sym c.clear.ensures)
          (ahead_written before (record { manager = c.args.manager.now; served = served; said = (c.args.answers.now, written); marks = c.args.marks.now }) said lines ahead says still
          (c.flush.ensures.empty still)),
      λ failed. absurd (both_ways _ still failed),
    )
