use Rattle.std.proofs.Common.{length, sym, ap, ◌∙◌, arith}
use Rattle.std.proofs.lemmas.Bool.{eqb-false}
use Rattle.klp_journal.specs.declared.kinds.TheConstants.{KIND_TRANSITION}
use Rattle.klp_journal.proofs.FlagLemmas.{no_flag}
use Rattle.klp_journal.proofs.read_words.read_moving.Goals as goal

pub returns-in_err-patch : goal.returns-in_err-patch
returns-in_err-patch c =
    no_flag KIND_TRANSITION c.args.body.now (omega arith) (λ is. omega (arith, is)) (λ is. omega (arith, is)) (λ is none. eqb-false (length c.args.body.now) 0 (sym c.is_empty.ensures ∙ c.if-is_empty.false) (ap length none))
    c.number_and_flag.result c.from_residual.result c.number_and_flag.ensures c.in_err-patch.was c.from_residual.ensures
