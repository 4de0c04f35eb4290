use Rattle.std.proofs.Common.{rules}
use Rattle.klp_model.proofs.examples.a_module_goes_patch_by_patch.Goals as goal

pub returns-clause-in_a_new_one : goal.returns-clause-in_a_new_one
returns-clause-in_a_new_one c = search rules
