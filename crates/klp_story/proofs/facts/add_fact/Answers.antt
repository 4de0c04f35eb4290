use Rattle.std.proofs.Common.{rules}
use Rattle.klp_story.proofs.facts.add_fact.Goals as goal

pub returns-in-PreFailed : goal.returns-in-PreFailed
returns-in-PreFailed g c = rw (c.in-PreFailed.is, c.requires, ← c.object_name-object.ensures) (search rules)

pub returns-in-Comes : goal.returns-in-Comes
returns-in-Comes g c = rw (c.in-Comes.is, c.requires) c.add_of_object.ensures

pub returns-in-Goes : goal.returns-in-Goes
returns-in-Goes g c = rw (c.in-Goes.is, c.requires) c.add_of_object-in-Goes.ensures
