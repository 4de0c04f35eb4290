use Rattle.std.proofs.Common.{arith}
use Rattle.klp_journal.specs.declared.kinds.TheConstants.{KIND_PINNED}
use Rattle.klp_journal.proofs.FlagLemmas.{no_flag}
use Rattle.klp_journal.proofs.read_words.read_pinned.Goals as goal

pub returns-in_err-patch : goal.returns-in_err-patch
returns-in_err-patch c =
    no_flag KIND_PINNED c.args.body.now (omega arith) (λ is. omega (arith, is)) (λ is. omega (arith, is)) (λ is. absurd (omega (arith, is)))
    c.number_and_flag.result c.from_residual.result c.number_and_flag.ensures c.in_err-patch.was c.from_residual.ensures
