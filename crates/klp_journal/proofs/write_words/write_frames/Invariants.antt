use Rattle.std.proofs.Common.{◌≡◌, ℕ, ◌+◌, ◌<◌, ◌++◌, map, take, get_or}
use Rattle.klp_types.specs.declared.version.Version.{Version}
use Rattle.klp_journal.specs.Words.{frame_word, IsFrame}
use Rattle.klp_journal.proofs.write_words.write_frames.Given as goal

abbrev pub invariant-loop-k : goal.invariant-loop-k
invariant-loop-k l = record {
  written : take (l.at + l.k) l.words ≡ take l.at l.initial.words ++ map frame_word (take l.k l.frames);
  range : (k : ℕ) (d : Version) → k < l.k → IsFrame (get_or l.frames k d);
}
