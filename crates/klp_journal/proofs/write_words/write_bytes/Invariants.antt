use Rattle.std.proofs.Common.{◌≡◌, ◌+◌, ◌≤◌, ◌++◌}
use Rattle.std.specs.Prelude.{vec_len, vec_capacity}
use Rattle.klp_journal.specs.Words.{byte_words}
use Rattle.klp_journal.proofs.write_words.write_bytes.Given as goal

abbrev pub invariant-loop-k : goal.invariant-loop-k
invariant-loop-k l = record {
  written : l.words.items ≡ l.initial.words.items ++ byte_words l.k l.bytes;
  count : vec_len l.words ≡ vec_len l.initial.words + l.k;
  room : vec_capacity l.initial.words ≤ vec_capacity l.words;
}
