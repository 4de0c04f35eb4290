use Rattle.std.proofs.Common.{rules}
use Rattle.klp_patch.proofs.covered.is_in_scope.Goals as goal

pub returns-in-None : goal.returns-in-None
returns-in-None c = search rules
