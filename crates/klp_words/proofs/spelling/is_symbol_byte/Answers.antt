-- The table is held against the definition at each of the 256 bytes, by computing.
use Rattle.std.proofs.Common.{not, nat_eq, get_or, refl, arith}
use Rattle.std.proofs.lemmas.Bool.{agree_below_at}
use Rattle.klp_words.specs.declared.spelling.TheConstants.{SYMBOL_BYTES}
use Rattle.klp_words.specs.Words.{is_symbol_byte}
use Rattle.klp_words.proofs.spelling.is_symbol_byte.Goals as goal

pub returns : goal.returns
returns c = agree_below_at (λ b. not (nat_eq (get_or SYMBOL_BYTES b 0) 44)) is_symbol_byte 256 c.args.byte refl (omega arith)
