use Rattle.std.proofs.Common.{sym, ◌∙◌, arith}
use Rattle.std.proofs.lemmas.Bool.{eqb-true}
use Rattle.std.proofs.lemmas.List.{take_all}
use Rattle.klp_journal.proofs.FrameLemmas.{same_so_far}
use Rattle.klp_journal.proofs.switched.are_same.Goals as goal

pub loop-k-preserved : goal.loop-k-preserved
loop-k-preserved c =
    same_so_far c.args.words.now c.args.others.now c.loop-k.k c.loop-k.differing c.loop-k-test.true (omega arith) c.loop-k.invariant

pub returns : goal.returns
returns c = λ yes.
    sym (take_all c.loop-k.k c.args.words.now (omega arith))
    ∙ c.loop-k.invariant (eqb-true c.loop-k.differing 0 yes)
    ∙ take_all c.loop-k.k c.args.others.now (omega arith)
