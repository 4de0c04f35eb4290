use Rattle.klp_lint_findings.proofs.SetLemmas.{none_in}
use Rattle.klp_lint_findings.proofs.lists.FunctionSet.new.Goals as goal

pub returns : goal.returns
returns c = λ number. none_in 64 number
