use Rattle.std.proofs.Common.{inr}
use Rattle.klp_lint_together.proofs.replacing.state_loaded.Goals as goal

pub returns-clause-value : goal.returns-clause-value
returns-clause-value g c = inr (c.run.new.manager, c.run.ensures.leads, c.state_of-value.ensures.value)
