use Rattle.std.proofs.Common.{◌-◌, length, refl, sym, subst, ◌∙◌, arith, rules}
use Rattle.std.proofs.lemmas.Bool.{both_ways}
use Rattle.klp_console_commands.specs.Asked.{asked_with}
use Rattle.klp_console_io.specs.Gathered.{Gathered}
use Rattle.klp_console_io.specs.Marks.{events_at_cut}
use Rattle.klp_console_io.specs.Written.{Written}
use Rattle.klp_console.specs.Answered.{IsDoneIf}
use Rattle.klp_console.specs.Back.{IsTakenBack}
use Rattle.klp_console.specs.Said.{Serving, IsSaid}
use Rattle.klp_console.proofs.SaidLemmas.{held_falls}
use Rattle.klp_console.proofs.AheadLemmas.{hold, does_line, next_ahead, next_cut}
use Rattle.klp_console.proofs.answer.gather.Goals as goal

pub take_back-requires : goal.take_back-requires
take_back-requires g c =
    let start : Gathered × Written = (c.args.answers.now, g.W.Sink.written c.args.writer.now) in
    let said : Gathered × Written = (c.done-is_refused.new.answers, g.W.Sink.written c.done-is_refused.new.writer) in
    let says = subst (λ (a : Gathered). IsSaid (IsDoneIf c.args.manager.now c.done-is_refused.new.manager (asked_with c.args.asked.now c.args.event.now)) (a, start.1) said c.done-is_refused.result)
    c.hold-gathered.ensures.held c.done-is_refused.ensures in
    omega (arith, held_falls (hold start) said says.0 says.2 c.requires.still, c.hold-gathered.ensures.result)

pub returns-then-has_failed-clause-comes : goal.returns-then-has_failed-clause-comes
returns-then-has_failed-clause-comes g c =
    let start : Gathered × Written = (c.args.answers.now, g.W.Sink.written c.args.writer.now) in
    let said : Gathered × Written = (c.done-is_refused.new.answers, g.W.Sink.written c.done-is_refused.new.writer) in
    let says = subst (λ (a : Gathered). IsSaid (IsDoneIf c.args.manager.now c.done-is_refused.new.manager (asked_with c.args.asked.now c.args.event.now)) (a, start.1) said c.done-is_refused.result)
    c.hold-gathered.ensures.held c.done-is_refused.ensures in
    let b : Serving = record { manager = c.args.manager.now; served = c.args.served.now; said = start; marks = c.args.marks.now } in
    let n : Serving = record { manager = c.done-is_refused.new.manager; served = c.count.new.served; said = said; marks = c.args.marks.now } in
    let failed = sym c.has_failed.ensures ∙ c.if-has_failed.true in
    let back = subst (λ k. IsTakenBack n.manager c.take_back.new.manager (events_at_cut (k - c.done-is_refused.new.answers.held) c.args.marks.now)) c.hold-gathered.ensures.result c.take_back.ensures in
    λ before lines line asked short ahead. (
      λ still. absurd (both_ways _ still failed),
      λ same. next_cut before b n c.take_back.new.manager lines line ahead
          (does_line b n line (asked_with c.args.asked.now c.args.event.now) c.done-is_refused.result asked says c.mark-events.ensures.well_formed short c.count.ensures.lines c.count.ensures.refused c.requires.back) failed back,
    )

pub returns-else-has_failed-clause-comes : goal.returns-else-has_failed-clause-comes
returns-else-has_failed-clause-comes g c =
    let start : Gathered × Written = (c.args.answers.now, g.W.Sink.written c.args.writer.now) in
    let said : Gathered × Written = (c.done-is_refused.new.answers, g.W.Sink.written c.done-is_refused.new.writer) in
    let says = subst (λ (a : Gathered). IsSaid (IsDoneIf c.args.manager.now c.done-is_refused.new.manager (asked_with c.args.asked.now c.args.event.now)) (a, start.1) said c.done-is_refused.result)
    c.hold-gathered.ensures.held c.done-is_refused.ensures in
    let b : Serving = record { manager = c.args.manager.now; served = c.args.served.now; said = start; marks = c.args.marks.now } in
    let n : Serving = record { manager = c.done-is_refused.new.manager; served = c.count.new.served; said = said; marks = c.mark_line.new.marks } in
    let still = sym c.has_failed.ensures ∙ c.if-has_failed.false in
    λ before lines line asked short ahead. (
      λ same. next_ahead before b n lines line ahead
          (does_line b n line (asked_with c.args.asked.now c.args.event.now) c.done-is_refused.result asked says c.mark-events.ensures.well_formed short c.count.ensures.lines c.count.ensures.refused c.requires.back) still
          (record { end = length said.0.bytes; events = c.mark-events.result }) refl c.mark-events.ensures.mark c.mark_line.ensures,
      λ failed. absurd (both_ways _ still failed),
    )

pub returns-then-has_failed-clause-lines : goal.returns-then-has_failed-clause-lines
returns-then-has_failed-clause-lines g c = search rules
