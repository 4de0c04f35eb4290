use Rattle.klp_world.proofs.PatchLemmas.{value_in, no_value_in}
use Rattle.klp_world.proofs.world.World.value.Goals as goal

pub returns : goal.returns
returns c = value_in c.args.patch c.deref.result.now c.self.inside.patches.items c.self.inside.shadow c.args.self.now c.deref.ensures.value c.self.view_is c.args.id c.in-Some.place c.index.result.now c.value.result c.in-Some.ensures c.index.ensures c.value.ensures

pub returns-in_default : goal.returns-in_default
returns-in_default c = no_value_in c.args.patch c.deref.result.now c.self.inside.patches.items c.self.inside.shadow c.args.self.now c.deref.ensures.value c.self.view_is c.args.id c.in_default.ensures
