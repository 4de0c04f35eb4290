use Rattle.klp_world.proofs.StateLemmas.{taken_found, taken_missing}
use Rattle.klp_world.proofs.patch.InstalledPatch.remove.Goals as goal

pub returns-in-Some : goal.returns-in-Some
returns-in-Some c = taken_found c.args.id c.deref.result.now c.self.inside.states.items c.args.self.now c.self.inside.patch c.deref.ensures.0 c.self.view_is c.in-Some.place c.remove.new.self.items c.in-Some.ensures c.remove.ensures.items

pub returns-in_default : goal.returns-in_default
returns-in_default c = taken_missing c.args.id c.deref.result.now c.self.inside.states.items c.args.self.now c.self.inside.patch c.deref.ensures.0 c.self.view_is c.in_default.ensures
