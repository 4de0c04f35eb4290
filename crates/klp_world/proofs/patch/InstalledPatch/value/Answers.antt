use Rattle.klp_world.proofs.StateLemmas.{value_found, value_missing}
use Rattle.std.proofs.Common.{◌∙◌}
use Rattle.klp_world.proofs.patch.InstalledPatch.value.Goals as goal

pub returns : goal.returns
returns c = value_found c.args.id c.deref.result.now c.self.inside.states.items c.args.self.now c.self.inside.patch c.deref.ensures.0 c.self.view_is c.in-Some.place c.deref-2.result.now (c.state.inside.id, c.state.inside.value) c.index-deref-place.result c.in-Some.ensures c.deref-2.ensures.0 (c.state.view_is ∙ c.index-deref-place.is)

pub returns-in_default : goal.returns-in_default
returns-in_default c = value_missing c.args.id c.deref.result.now c.self.inside.states.items c.args.self.now c.self.inside.patch c.deref.ensures.0 c.self.view_is c.in_default.ensures
