use Rattle.std.proofs.Common.{◌≡◌, ◌≤◌, length, map, take}
use Rattle.std.specs.List.{All}
use Rattle.klp_journal.specs.Words.{frame_word, IsFrame}
use Rattle.klp_journal.proofs.read_words.read_frames.Given as goal

abbrev pub invariant-loop-word : goal.invariant-loop-word
invariant-loop-word l =
    record {
      read : map frame_word l.frames ≡ take l.word-index l.words;
      few : length l.frames ≤ 32;
      range : All IsFrame l.frames;
    }
