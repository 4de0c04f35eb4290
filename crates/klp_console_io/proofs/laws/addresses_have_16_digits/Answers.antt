use Rattle.klp_console_io.proofs.TextLemmas.{length-address_text}
use Rattle.klp_console_io.proofs.laws.addresses_have_16_digits.Goals as goal

pub returns : goal.returns
returns c = length-address_text
