use Rattle.std.proofs.Common.{◌∙◌, get_or, arith, sym}
use Rattle.std.specs.Char.{is_ascii_hexdigit}
use Rattle.std.proofs.lemmas.Int.Digits.{digits_value_more}
use Rattle.klp_words.proofs.NumberLemmas.{all_more, digit_from_some, hexadecimal_room, hexadecimal_step}
use Rattle.klp_words.proofs.number.hexadecimal.Goals as goal

pub overflow_mul-number : goal.overflow_mul-number
overflow_mul-number c = omega (arith, hexadecimal_room c.loop-byte.number c.loop-byte.byte-index (omega arith) c.loop-byte.invariant.small)

pub overflow_add-number : goal.overflow_add-number
overflow_add-number c =
    let room = hexadecimal_room c.loop-byte.number c.loop-byte.byte-index (omega arith) c.loop-byte.invariant.small in
    let digit = digit_from_some (get_or c.args.word.now c.loop-byte.byte-index 0) c.in_ok-hexadecimal_digit.field-0 (sym c.in_ok-hexadecimal_digit.was ∙ c.hexadecimal_digit.ensures) in
    omega (arith, room, digit.2)

pub loop-byte-preserved : goal.loop-byte-preserved
loop-byte-preserved c =
    let digit = digit_from_some (get_or c.args.word.now c.loop-byte.byte-index 0) c.in_ok-hexadecimal_digit.field-0 (sym c.in_ok-hexadecimal_digit.was ∙ c.hexadecimal_digit.ensures) in
    record {
      value = omega (arith, digits_value_more 16 c.args.word.now c.loop-byte.byte-index c.loop-byte-test.true, digit.1, c.loop-byte.invariant.value);
      digits = all_more is_ascii_hexdigit c.args.word.now c.loop-byte.byte-index c.loop-byte-test.true c.loop-byte.invariant.digits digit.0;
      small = hexadecimal_step c.loop-byte.number c.from.result c.loop-byte.byte-index c.loop-byte.invariant.small (omega (arith, digit.2));
    }
