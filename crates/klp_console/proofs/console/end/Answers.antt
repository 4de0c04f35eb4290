use Rattle.std.proofs.Common.{◌≡◌, ◌==◌, [], ◌∷◌, false, length, sym, subst, ◌∙◌}
use Rattle.std.proofs.lemmas.List.{nil_from_length}
use Rattle.std.proofs.lemmas.Bool.{eqb-true}
use Rattle.klp_console.specs.Lines.{whole}
use Rattle.klp_console.specs.Said.{Serving, Serves, IsCut}
use Rattle.klp_console.proofs.SaidLemmas.{serves_none, whole_line}
use Rattle.klp_console.proofs.AheadLemmas.{ahead_none}
use Rattle.klp_console.proofs.console.end.Goals as goal

pub returns-then-is_empty-clause-serves : goal.returns-then-is_empty-clause-serves
returns-then-is_empty-clause-serves g c =
    let start : Serving = record { manager = c.args.manager.now; served = c.args.served.now; said = (c.args.answers.now, g.W.Sink.written c.args.writer.now); marks = c.args.marks.now } in
    let empty : c.args.line.now ≡ [] = sym c.bytes-last.ensures.bytes ∙ nil_from_length c.bytes-last.result.now (eqb-true _ 0 (sym c.is_empty.ensures ∙ c.if-is_empty.true)) in
    subst (λ l. Serves start start (whole (l ∷ []))) (sym empty) (serves_none start c.requires.none c.requires.still)

pub returns-then-has_failed-clause-cut : goal.returns-then-has_failed-clause-cut
returns-then-has_failed-clause-cut g c =
    let start : Serving = record { manager = c.args.manager.now; served = c.args.served.now; said = (c.args.answers.now, g.W.Sink.written c.args.writer.now); marks = c.args.marks.now } in
    let after : Serving = record { manager = c.serve_line.new.manager; served = c.serve_line.new.served; said = (c.serve_line.new.answers, g.W.Sink.written c.serve_line.new.writer); marks = c.serve_line.new.marks } in
    let none = ahead_none start c.requires.none c.requires.still c.requires.unmarked in
    let failed = sym c.has_failed.ensures ∙ c.if-has_failed.true in
    let some : (length c.bytes-last.result.now == 0) ≡ false = sym c.is_empty.ensures ∙ c.if-is_empty.false in (
      subst (λ l. IsCut start after (l ∷ [])) c.bytes-last.ensures.bytes ((c.serve_line.ensures.comes start [] none).1 failed),
      subst (λ l. whole (l ∷ []) ≡ l ∷ []) c.bytes-last.ensures.bytes (whole_line c.bytes-last.result.now some),
    )

pub returns-then-has_failed-2-clause-cut : goal.returns-then-has_failed-2-clause-cut
returns-then-has_failed-2-clause-cut g c =
    let start : Serving = record { manager = c.args.manager.now; served = c.args.served.now; said = (c.args.answers.now, g.W.Sink.written c.args.writer.now); marks = c.args.marks.now } in
    let after : Serving = record { manager = c.write_out.new.manager; served = c.serve_line.new.served; said = (c.write_out.new.answers, g.W.Sink.written c.write_out.new.writer); marks = c.write_out.new.marks } in
    let none = ahead_none start c.requires.none c.requires.still c.requires.unmarked in
    let still = sym c.has_failed.ensures ∙ c.if-has_failed.false in
    let failed = sym c.has_failed-2.ensures ∙ c.if-has_failed-2.true in
    let line = c.bytes-last.result.now in
    let some : (length line == 0) ≡ false = sym c.is_empty.ensures ∙ c.if-is_empty.false in (
      subst (λ l. IsCut start after (l ∷ [])) c.bytes-last.ensures.bytes ((c.write_out.ensures.comes start (line ∷ []) c.serve_line.new.served ((c.serve_line.ensures.comes start [] none).0 still)).1 failed),
      subst (λ l. whole (l ∷ []) ≡ l ∷ []) c.bytes-last.ensures.bytes (whole_line line some),
    )

pub returns-clause-serves : goal.returns-clause-serves
returns-clause-serves g c =
    let start : Serving = record { manager = c.args.manager.now; served = c.args.served.now; said = (c.args.answers.now, g.W.Sink.written c.args.writer.now); marks = c.args.marks.now } in
    let after : Serving = record { manager = c.write_out.new.manager; served = c.serve_line.new.served; said = (c.write_out.new.answers, g.W.Sink.written c.write_out.new.writer); marks = c.write_out.new.marks } in
    let none = ahead_none start c.requires.none c.requires.still c.requires.unmarked in
    let still = sym c.has_failed.ensures ∙ c.if-has_failed.false in
    let calm = sym c.has_failed-2.ensures ∙ c.if-has_failed-2.false in
    let line = c.bytes-last.result.now in
    let some : (length line == 0) ≡ false = sym c.is_empty.ensures ∙ c.if-is_empty.false in
    let serves = ((c.write_out.ensures.comes start (line ∷ []) c.serve_line.new.served ((c.serve_line.ensures.comes start [] none).0 still)).0 calm).serves in
    subst (λ l. Serves start after (whole (l ∷ []))) c.bytes-last.ensures.bytes (subst (Serves start after) (sym (whole_line line some)) serves)
