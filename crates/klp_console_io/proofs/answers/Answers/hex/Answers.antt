use Rattle.std.proofs.Common.{◌+◌, ◌-◌, ◌≤◌, ◌++◌, length, take, [], sym, arith}
use Rattle.hex.specs.Hex.{encode_lower}
use Rattle.klp_console_io.specs.Gathered.{Gathered}
use Rattle.klp_console_io.specs.Written.{Written}
use Rattle.klp_console_io.proofs.SaysLemmas.{says-append, says_nothing, says_same}
use Rattle.klp_console_io.proofs.TextLemmas.{no_digits, length_piece, digits_on}
use Rattle.klp_console_io.proofs.answers.Answers.hex.Goals as goal

pub loop-done-init : goal.loop-done-init
loop-done-init g c =
    let start : Gathered × Written = (c.args.self.now, g.W.Sink.written c.args.writer.now) in
    record {
      within = omega arith;
      said = says_same start start [] (encode_lower []) (sym no_digits) (says_nothing start);
    }

pub loop-done-preserved : goal.loop-done-preserved
loop-done-preserved g c =
    let piece = c.min.result - c.loop-done.done in
    let fits : c.loop-done.done + piece ≤ length c.args.bytes.now = omega arith in
    let len = length_piece c.args.bytes.now c.loop-done.done piece fits in
    let start : Gathered × Written = (c.args.self.now, g.W.Sink.written c.args.writer.now) in
    let now : Gathered × Written = (c.loop-done.self, g.W.Sink.written c.loop-done.writer) in
    let after : Gathered × Written = (c.say.new.self, g.W.Sink.written c.say.new.writer) in
    let before = encode_lower (take c.loop-done.done c.args.bytes.now) in
    record {
      within = omega arith;
      said = says_same start after (before ++ c.in_hex.result.now) _
          (digits_on c.args.bytes.now c.in_hex.result.now c.loop-done.done piece fits c.in_hex.ensures)
          (says-append start now after before c.in_hex.result.now c.loop-done.invariant.said c.say.ensures);
    }
