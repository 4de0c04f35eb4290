use Rattle.std.proofs.Common.{length, take, ◌-◌, ◌≤◌}
use Rattle.hex.specs.Hex.{encode_lower}
use Rattle.klp_console_io.specs.Says.{Says}
use Rattle.klp_console_io.proofs.answers.Answers.hex.Given as goal

abbrev pub invariant-loop-done : goal.invariant-loop-done
invariant-loop-done g l = record {
  within : l.done ≤ length l.bytes;
  said : Says (l.initial.self, g.W.Sink.written l.initial.writer) (l.self, g.W.Sink.written l.writer) (encode_lower (take l.done l.bytes));
}

abbrev pub decreases-loop-done : goal.decreases-loop-done
decreases-loop-done g l = length l.bytes - l.done
