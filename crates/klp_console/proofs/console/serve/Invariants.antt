use Rattle.std.proofs.Common.{◌≡◌, ◌+◌, ◌*◌, ◌≤◌, [], false, length}
use Rattle.klp_console.proofs.ServeLemmas.{SoFar, start_at}
use Rattle.klp_console.proofs.console.serve.Given as goal

abbrev pub invariant-loop-read : goal.invariant-loop-read
invariant-loop-read g l = record {
  so_far : SoFar (g.R.Source.supply l.initial.reader) (g.R.Source.supply l.reader) (start_at l.initial.manager (g.W.Sink.written l.initial.writer))
      (record { manager = l.manager; served = l.served; said = (l.answers, g.W.Sink.written l.writer); marks = l.marks }) l.line;
  still : l.answers.has_failed ≡ false;
  written : l.answers.bytes ≡ [];
  unmarked : l.marks ≡ [];
  few : l.served.refused ≤ l.served.lines;
  room : l.served.lines ≤ 4096 * l._read;
  long : length l.room ≡ 4096;
  reads : (g.R.Source.supply l.reader).reads ≡ (g.R.Source.supply l.initial.reader).reads + l._read;
  asked : (g.R.Source.supply l.reader).asked ≡ (g.R.Source.supply l.initial.reader).asked + 4096 * l._read;
}
