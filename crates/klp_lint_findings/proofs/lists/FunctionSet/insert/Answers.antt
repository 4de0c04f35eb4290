use Rattle.klp_lint_findings.proofs.SetLemmas.{set_more}
use Rattle.klp_lint_findings.proofs.lists.FunctionSet.insert.Goals as goal

pub returns-then-number-lt-MAX_FUNCTIONS : goal.returns-then-number-lt-MAX_FUNCTIONS
returns-then-number-lt-MAX_FUNCTIONS c = set_more c.args.self.now.flags c.args.number
