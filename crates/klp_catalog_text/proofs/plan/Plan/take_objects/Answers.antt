use Rattle.std.proofs.Common.{rules}
use Rattle.klp_catalog_text.proofs.plan.Plan.take_objects.Goals as goal

pub returns-clause-objects : goal.returns-clause-objects
returns-clause-objects c = search rules
