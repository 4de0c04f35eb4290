use Rattle.klp_lint.specs.Acting.{acting}
use Rattle.klp_lint.proofs.JudgedLemmas.{left_fails}
use Rattle.klp_lint.proofs.judged.judge.Goals as goal

pub returns-in-Some-clause-err : goal.returns-in-Some-clause-err
returns-in-Some-clause-err g c =
    left_fails (g.V.Variables.values c.args.variables.now) (acting c.args.modules.now 0 c.args.targets.now) c.in-Some.place c.in-Some.left c.premise_of.result
    c.premise_of.ensures c.in-Some.ensures
