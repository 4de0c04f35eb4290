use Rattle.std.proofs.Common.{rules}
use Rattle.klp_model.proofs.examples.a_module_comes_patch_by_patch.Goals as goal

pub returns-clause-moving : goal.returns-clause-moving
returns-clause-moving c = search rules

pub returns-clause-refused : goal.returns-clause-refused
returns-clause-refused c = search rules
