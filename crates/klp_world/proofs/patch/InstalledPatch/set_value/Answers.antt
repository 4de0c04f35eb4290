use Rattle.klp_world.proofs.StateLemmas.{value_found, value_missing, set_found, set_missing}
use Rattle.klp_world.proofs.patch.InstalledPatch.set_value.Goals as goal

pub returns-clause-was : goal.returns-clause-was
returns-clause-was c = value_found c.args.id c.deref.result.now c.self.inside.states.items c.args.self.now c.self.inside.patch c.deref.ensures.0 c.self.view_is c.in-Some.place c.deref_mut.result.now (c.state.inside.id, c.state.inside.value) c.index-deref_mut-place.result c.in-Some.ensures c.deref_mut.ensures.value c.state.view_is

pub returns-clause-states : goal.returns-clause-states
returns-clause-states c = set_found c.args.id c.deref.result.now c.self.inside.states.items c.args.self.now c.self.inside.patch c.deref.ensures.0 c.self.view_is c.args.value c.in-Some.place c.deref_mut.result.now (c.state.inside.id, c.state.inside.value) c.index-deref_mut-place.result c.in-Some.ensures c.deref_mut.ensures.value c.state.view_is

pub returns-in_default-clause-was : goal.returns-in_default-clause-was
returns-in_default-clause-was c = value_missing c.args.id c.deref.result.now c.self.inside.states.items c.args.self.now c.self.inside.patch c.deref.ensures.0 c.self.view_is c.in_default.ensures

pub returns-in_default-clause-states : goal.returns-in_default-clause-states
returns-in_default-clause-states c = set_missing c.args.id c.deref.result.now c.self.inside.states.items c.args.self.now c.self.inside.patch c.deref.ensures.0 c.self.view_is c.args.value c.in_default.ensures
