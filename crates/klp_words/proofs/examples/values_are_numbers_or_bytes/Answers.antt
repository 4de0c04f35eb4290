use Rattle.klp_words.proofs.ValueExamples.{two_bytes, no_bytes, no_digit, longest, too_long, five, bytes_written, nothing_written}
use Rattle.klp_words.proofs.examples.values_are_numbers_or_bytes.Goals as goal

pub returns-clause-bytes : goal.returns-clause-bytes
returns-clause-bytes c = two_bytes

pub returns-clause-no_bytes : goal.returns-clause-no_bytes
returns-clause-no_bytes c = no_bytes

pub returns-clause-no_digit : goal.returns-clause-no_digit
returns-clause-no_digit c = no_digit

pub returns-clause-longest : goal.returns-clause-longest
returns-clause-longest c = longest

pub returns-clause-too_long : goal.returns-clause-too_long
returns-clause-too_long c = too_long

pub returns-clause-number_written : goal.returns-clause-number_written
returns-clause-number_written c = five

pub returns-clause-bytes_written : goal.returns-clause-bytes_written
returns-clause-bytes_written c = bytes_written

pub returns-clause-nothing_written : goal.returns-clause-nothing_written
returns-clause-nothing_written c = nothing_written
