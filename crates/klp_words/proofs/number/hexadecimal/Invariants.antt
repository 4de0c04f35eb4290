use Rattle.std.proofs.Common.{◌≡◌, ◌^◌, ◌<◌, true, take}
use Rattle.std.specs.List.{list_all}
use Rattle.std.specs.Char.{is_ascii_hexdigit}
use Rattle.std.specs.Str.Parse.{digits_value}
use Rattle.klp_words.proofs.number.hexadecimal.Given as goal

abbrev pub invariant-loop-byte : goal.invariant-loop-byte
invariant-loop-byte l = record {
  value : l.number ≡ digits_value 16 (take l.byte-index l.word);
  digits : list_all is_ascii_hexdigit (take l.byte-index l.word) ≡ true;
  small : l.number < 16 ^ l.byte-index;
}
