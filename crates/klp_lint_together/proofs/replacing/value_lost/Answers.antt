use Rattle.std.proofs.Common.{inl}
use Rattle.klp_lint_together.proofs.replacing.value_lost.Goals as goal

pub returns-then-not-contains-clause-value : goal.returns-then-not-contains-clause-value
returns-then-not-contains-clause-value g c = inl c.state_of.ensures.value
