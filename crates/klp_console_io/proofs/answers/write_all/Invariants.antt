use Rattle.std.proofs.Common.{length, take, ◌-◌, ◌≤◌}
use Rattle.std.specs.Io.KnownBytes.{Appends}
use Rattle.klp_console_io.specs.Says.{IsWell}
use Rattle.klp_console_io.proofs.answers.write_all.Given as goal

abbrev pub invariant-loop-done : goal.invariant-loop-done
invariant-loop-done g l = record {
  within : l.done ≤ length l.bytes;
  taken : Appends (g.W.Sink.written l.initial.writer).taken (g.W.Sink.written l.writer).taken (take l.done l.bytes);
  well : IsWell (g.W.Sink.written l.initial.writer) (g.W.Sink.written l.writer);
}

abbrev pub decreases-loop-done : goal.decreases-loop-done
decreases-loop-done g l = length l.bytes - l.done
