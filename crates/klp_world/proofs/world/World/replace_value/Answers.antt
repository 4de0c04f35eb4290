use Rattle.std.proofs.Common.{ap, ◌∙◌}
use Rattle.klp_types.specs.World.{Installed}
use Rattle.klp_types.specs.World.{set_among}
use Rattle.klp_world.proofs.PatchLemmas.{value_in, no_value_in, changed_in, unchanged_in, numbers-set}
use Rattle.klp_world.proofs.world.World.replace_value.Goals as goal

pub returns-clause-was : goal.returns-clause-was
returns-clause-was c = value_in c.args.patch c.deref.result.now c.self.inside.patches.items c.self.inside.shadow c.args.self.now c.deref.ensures.value c.self.view_is c.args.id c.in-Some.place c.index_mut.result.now c.set_value.result c.in-Some.ensures c.index_mut.ensures.value c.set_value.ensures.was

pub returns-clause-world : goal.returns-clause-world
returns-clause-world c = changed_in c.args.patch c.deref.result.now c.self.inside.patches.items c.self.inside.shadow c.args.self.now c.deref.ensures.value c.self.view_is (set_among c.args.id c.args.value) c.in-Some.place c.index_mut.result.now c.set_value.new.self c.in-Some.ensures c.index_mut.ensures.value c.set_value.ensures.states

pub returns-in_default-clause-was : goal.returns-in_default-clause-was
returns-in_default-clause-was c = no_value_in c.args.patch c.deref.result.now c.self.inside.patches.items c.self.inside.shadow c.args.self.now c.deref.ensures.value c.self.view_is c.args.id c.in_default.ensures

pub returns-in_default-clause-world : goal.returns-in_default-clause-world
returns-in_default-clause-world c = unchanged_in c.args.patch c.deref.result.now c.self.inside.patches.items c.self.inside.shadow c.args.self.now c.deref.ensures.value c.self.view_is (set_among c.args.id c.args.value) c.in_default.ensures

pub invariant_of-self : goal.invariant_of-self
invariant_of-self c =
    let same = numbers-set c.self.inside.patches.items c.in-Some.place c.index_mut.result.now c.set_value.new.self c.index_mut.ensures.value (ap (λ (i : Installed). i.patch) c.set_value.ensures.states) in
    (c.self.invariant.0, c.self.invariant.1, same ∙ c.self.invariant.2)
