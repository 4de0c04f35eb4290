use Rattle.std.proofs.Common.{[], refl, ap, sym, ◌∙◌}
use Rattle.klp_console_io.specs.Gathered.{Gathered}
use Rattle.klp_console_io.specs.Written.{Written}
use Rattle.klp_console.specs.Answered.{Answer}
use Rattle.klp_console.specs.Outcomes.{is_refusal}
use Rattle.klp_console.proofs.SentLemmas.{sent_whole, sent_in_part}
use Rattle.klp_console.proofs.answer.answer_line.Goals as goal

pub returns-then-has_failed : goal.returns-then-has_failed
returns-then-has_failed g c =
    let said = c.take_line-outcome.ensures.said in
    let answer : Answer = record { text = said.0; is_refused = is_refusal c.take_line-outcome.result } in
    let start : Gathered × Written = (c.new-answers.result, g.W.Sink.written c.args.writer.now) in
    let end : Gathered × Written = (c.flush.new.self, g.W.Sink.written c.flush.new.writer) in
    sent_in_part c.args.manager.now c.take_line-outcome.new.manager c.args.line.now answer start end _ said.1
    (c.what_is_said_adds_up.ensures.adds_up start (c.take_line-outcome.new.answers, g.W.Sink.written c.take_line-outcome.new.writer) end said.0 [] said.2 c.flush.ensures.says)
    (ap (λ (a : Gathered). a.bytes) c.new-answers.ensures) (ap (λ (a : Gathered). a.has_failed) c.new-answers.ensures) (sym c.has_failed.ensures ∙ c.if-has_failed.true)

pub returns : goal.returns
returns g c =
    let said = c.take_line-outcome.ensures.said in
    let answer : Answer = record { text = said.0; is_refused = is_refusal c.take_line-outcome.result } in
    let start : Gathered × Written = (c.new-answers.result, g.W.Sink.written c.args.writer.now) in
    let end : Gathered × Written = (c.flush.new.self, g.W.Sink.written c.flush.new.writer) in
    let still = sym c.has_failed.ensures ∙ c.if-has_failed.false in
    sent_whole c.args.manager.now c.take_line-outcome.new.manager c.args.line.now answer start end c.take_line-outcome.result said.1 refl c.take_line-outcome.ensures.outcome
    (c.what_is_said_adds_up.ensures.adds_up start (c.take_line-outcome.new.answers, g.W.Sink.written c.take_line-outcome.new.writer) end said.0 [] said.2 c.flush.ensures.says)
    (ap (λ (a : Gathered). a.bytes) c.new-answers.ensures) (ap (λ (a : Gathered). a.has_failed) c.new-answers.ensures) still (c.flush.ensures.empty still)
