use Rattle.std.proofs.Common.{rules}
use Rattle.klp_types.proofs.examples.transitions_end_with_the_callbacks_of_their_target.Goals as goal

pub returns-clause-patched : goal.returns-clause-patched
returns-clause-patched c = search rules
