use Rattle.std.proofs.Common.{◌≡◌, ℕ, ◌*◌, ◌^◌, ◌<◌, ◌++◌, take, drop, get_or}
use Rattle.klp_journal.specs.Decoded.{bytes_in}
use Rattle.klp_journal.proofs.read_words.unpack.Given as goal

abbrev pub invariant-loop-k : goal.invariant-loop-k
invariant-loop-k l =
    record {
      written : l.bytes ≡ bytes_in (take l.k l.words) ++ drop (8 * l.k) l.initial.bytes;
      range : (k : ℕ) → k < l.k → get_or l.words k 0 < 2 ^ 64;
    }
