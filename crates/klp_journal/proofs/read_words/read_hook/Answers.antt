use Rattle.std.proofs.Common.{arith}
use Rattle.klp_journal.specs.declared.kinds.TheConstants.{KIND_HOOK}
use Rattle.klp_journal.proofs.FlagLemmas.{no_flag}
use Rattle.klp_journal.proofs.read_words.read_hook.Goals as goal

pub returns-in_err-site : goal.returns-in_err-site
returns-in_err-site c =
    no_flag KIND_HOOK c.args.body.now (omega arith) (λ is. omega (arith, is)) (λ is. omega (arith, is)) (λ is. absurd (omega (arith, is)))
    c.number_and_flag.result c.from_residual.result c.number_and_flag.ensures c.in_err-site.was c.from_residual.ensures
