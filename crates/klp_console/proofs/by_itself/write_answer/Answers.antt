use Rattle.std.proofs.Common.{[], ap, sym, subst, ◌∙◌}
use Rattle.std.specs.Io.KnownBytes.{Appends}
use Rattle.klp_catalog.specs.Catalog.{Catalog}
use Rattle.klp_console_io.specs.Gathered.{Gathered}
use Rattle.klp_console_io.specs.Written.{Written}
use Rattle.klp_console.specs.Replies.{answer_text}
use Rattle.klp_console.proofs.SentLemmas.{sent_alone}
use Rattle.klp_console.proofs.by_itself.write_answer.Goals as goal

pub returns : goal.returns
returns g c =
    let text = answer_text c.catalog.result.now c.args.answer.now in
    let start : Gathered × Written = (c.new-answers.result, g.W.Sink.written c.args.writer.now) in
    let end : Gathered × Written = (c.flush.new.self, g.W.Sink.written c.flush.new.writer) in
    let still = sym c.has_failed.ensures ∙ c.if-has_failed.false in
    subst (λ (catalog : Catalog). Appends (g.W.Sink.written c.args.writer.now).taken (g.W.Sink.written c.flush.new.writer).taken (answer_text catalog c.args.answer.now)) c.catalog.ensures.catalog
    (sent_alone text start end
    (c.what_is_said_adds_up.ensures.adds_up start (c.say_answer.new.answers, g.W.Sink.written c.say_answer.new.writer) end text [] c.say_answer.ensures c.flush.ensures.says)
    (ap (λ (a : Gathered). a.bytes) c.new-answers.ensures) (ap (λ (a : Gathered). a.has_failed) c.new-answers.ensures) still (c.flush.ensures.empty still))
