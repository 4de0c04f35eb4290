use Rattle.std.proofs.Common.{rules}
use Rattle.klp_model.proofs.examples.a_manager_begins_with_nothing_installed.Goals as goal

pub returns : goal.returns
returns c = search rules
