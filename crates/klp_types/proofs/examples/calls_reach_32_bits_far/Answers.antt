use Rattle.std.proofs.Common.{rules}
use Rattle.klp_types.proofs.examples.calls_reach_32_bits_far.Goals as goal

pub returns-clause-too_far : goal.returns-clause-too_far
returns-clause-too_far c = search rules

pub returns-clause-too_far_back : goal.returns-clause-too_far_back
returns-clause-too_far_back c = search rules
