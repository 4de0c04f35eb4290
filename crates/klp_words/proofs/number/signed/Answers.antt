use Rattle.std.proofs.Common.{◌∙◌, sym}
use Rattle.klp_words.proofs.NumberLemmas.{status_is, no_status}
use Rattle.klp_words.proofs.number.signed.Goals as goal

pub returns : goal.returns
returns c =
    c.ok.ensures.value ∙ status_is c.args.word.now c.parse.result (sym c.if-not-has_only_digits_and_minus.ensures) (rw c.text.ensures at c.parse.ensures.value.0)

pub returns-then-not-has_only_digits_and_minus : goal.returns-then-not-has_only_digits_and_minus
returns-then-not-has_only_digits_and_minus c = no_status c.args.word.now (sym c.if-not-has_only_digits_and_minus.ensures)
