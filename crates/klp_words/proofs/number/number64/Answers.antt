use Rattle.std.proofs.Common.{◌≡◌, ◌^◌, ◌∙◌, get_or, arith, sym}
use Rattle.std.specs.Char.{is_ascii_digit, digit_value}
use Rattle.std.proofs.lemmas.Bool.Decides.{nat_tests}
use Rattle.std.proofs.lemmas.Int.Digits.{digits_value_more}
use Rattle.klp_words.proofs.NumberLemmas.{all_more, too_great}
use Rattle.klp_words.proofs.number.number64.Goals as goal

pub returns-in_err-checked_mul : goal.returns-in_err-checked_mul
returns-in_err-checked_mul c =
    c.from_residual.ensures ∙ too_great (2 ^ 64) c.args.word.now c.loop-byte.byte-index c.loop-byte-test.true (omega (arith, c.in_err-checked_mul.ensures, c.loop-byte.invariant.value))

pub returns-in_err-number : goal.returns-in_err-number
returns-in_err-number c =
    let digit : digit_value (get_or c.args.word.now c.loop-byte.byte-index 0) ≡ c.from.result = grind (arith, nat_tests) in
    c.from_residual-in_err-number.ensures ∙ too_great (2 ^ 64) c.args.word.now c.loop-byte.byte-index c.loop-byte-test.true (omega (arith, c.in_err-number.ensures, c.in_ok-checked_mul.ensures.1, c.loop-byte.invariant.value))

pub loop-byte-preserved : goal.loop-byte-preserved
loop-byte-preserved c =
    let digit : digit_value (get_or c.args.word.now c.loop-byte.byte-index 0) ≡ c.from.result = grind (arith, nat_tests) in
    record {
      value = omega (arith, digits_value_more 10 c.args.word.now c.loop-byte.byte-index c.loop-byte-test.true, c.in_ok-number.ensures.1, c.in_ok-checked_mul.ensures.1, c.loop-byte.invariant.value);
      digits = all_more is_ascii_digit c.args.word.now c.loop-byte.byte-index c.loop-byte-test.true c.loop-byte.invariant.digits (sym c.if-not-is_ascii_digit.ensures.value);
      small = omega (arith, c.in_ok-number.ensures.0, c.in_ok-number.ensures.1);
    }
