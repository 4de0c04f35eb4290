use Rattle.std.proofs.Common.{◌≡◌, ◌+◌, ◌-◌, ◌≤◌, length, drop}
use Rattle.std.specs.List.{position_or_len}
use Rattle.klp_words.specs.Split.{is_either}
use Rattle.klp_words.proofs.lanes.first_of.Given as goal

abbrev pub invariant-loop-at : goal.invariant-loop-at
invariant-loop-at l = record {
  none_before : position_or_len (is_either l.one l.other) l.bytes ≡ l.at + position_or_len (is_either l.one l.other) (drop l.at l.bytes);
  within : l.at ≤ length l.bytes;
}

abbrev pub decreases-loop-at : goal.decreases-loop-at
decreases-loop-at l = length l.bytes - l.at

abbrev pub invariant-loop-last : goal.invariant-loop-last
invariant-loop-last l = record {
  none_before : position_or_len (is_either l.one l.other) l.bytes ≡ l.last + position_or_len (is_either l.one l.other) (drop l.last l.bytes);
  within : l.last ≤ length l.bytes;
}

abbrev pub decreases-loop-last : goal.decreases-loop-last
decreases-loop-last l = length l.bytes - l.last
