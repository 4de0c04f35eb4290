use Rattle.std.proofs.Common.{rules}
use Rattle.klp_catalog.proofs.patch.is_compatible_with.Goals as goal

pub returns-in-None : goal.returns-in-None
returns-in-None c = search rules

pub returns-in-Some : goal.returns-in-Some
returns-in-Some c = search rules
