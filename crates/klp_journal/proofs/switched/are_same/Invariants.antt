use Rattle.std.proofs.Common.{◌≡◌, take}
use Rattle.klp_journal.proofs.switched.are_same.Given as goal

abbrev pub invariant-loop-k : goal.invariant-loop-k
invariant-loop-k l = l.differing ≡ 0 → take l.k l.words ≡ take l.k l.others
