use Rattle.std.proofs.Common.{◌≡◌, ◌≤◌, length}
use Rattle.klp_trace.specs.Names.{frames_of}
use Rattle.klp_trace.proofs.FrameLemmas.{frames_on}
use Rattle.klp_trace.proofs.names.frames_of.Given as goal

-- the frames so far stand in front of those that the words left spell
abbrev pub invariant-loop-word : goal.invariant-loop-word
invariant-loop-word g l = record {
  few : length l.frames ≤ 32;
  on : frames_of l.manager l.initial.words ≡ frames_on l.manager l.frames l.words;
}

abbrev pub decreases-loop-word : goal.decreases-loop-word
decreases-loop-word g l = length l.words
