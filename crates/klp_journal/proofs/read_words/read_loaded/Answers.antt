use Rattle.std.proofs.Common.{arith}
use Rattle.klp_journal.specs.declared.kinds.TheConstants.{KIND_LOADED}
use Rattle.klp_journal.proofs.FlagLemmas.{no_flag}
use Rattle.klp_journal.proofs.read_words.read_loaded.Goals as goal

pub returns-in_err-object : goal.returns-in_err-object
returns-in_err-object c =
    no_flag KIND_LOADED c.args.body.now (omega arith) (λ is. omega (arith, is)) (λ is. omega (arith, is)) (λ is. absurd (omega (arith, is)))
    c.number_and_flag.result c.from_residual.result c.number_and_flag.ensures c.in_err-object.was c.from_residual.ensures
