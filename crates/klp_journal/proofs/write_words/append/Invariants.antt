use Rattle.std.proofs.Common.{◌≡◌, ◌+◌, ◌≤◌, ◌++◌, take}
use Rattle.std.specs.Prelude.{vec_len, vec_capacity}
use Rattle.klp_journal.proofs.write_words.append.Given as goal

abbrev pub invariant-loop-word : goal.invariant-loop-word
invariant-loop-word l = record {
  written : l.words.items ≡ l.initial.words.items ++ take l.word-index l.new;
  count : vec_len l.words ≡ vec_len l.initial.words + l.word-index;
  room : vec_capacity l.initial.words ≤ vec_capacity l.words;
}
