use Rattle.std.proofs.Common.{rules}
use Rattle.klp_model.proofs.examples.objects_before_the_one_that_refuses_get_post_unpatch.Goals as goal

pub returns-clause-next : goal.returns-clause-next
returns-clause-next c = search rules
