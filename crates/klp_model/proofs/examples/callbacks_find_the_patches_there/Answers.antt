use Rattle.std.proofs.Common.{rules}
use Rattle.klp_model.proofs.examples.callbacks_find_the_patches_there.Goals as goal

pub returns-clause-taken : goal.returns-clause-taken
returns-clause-taken c = search rules
