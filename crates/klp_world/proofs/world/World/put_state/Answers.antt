use Rattle.std.proofs.Common.{ap, ◌∙◌}
use Rattle.klp_types.specs.World.{Installed}
use Rattle.klp_world.specs.Undo.{put_state}
use Rattle.klp_world.proofs.PatchLemmas.{changed_in, unchanged_in, numbers-set}
use Rattle.klp_world.proofs.world.World.put_state.Goals as goal

pub returns-in-Some : goal.returns-in-Some
returns-in-Some c = changed_in c.args.patch c.deref.result.now c.self.inside.patches.items c.self.inside.shadow c.args.self.now c.deref.ensures.value c.self.view_is (put_state c.args.id c.args.was) c.in-Some.place c.index_mut.result.now c.put_back.new.self c.in-Some.ensures c.index_mut.ensures.value c.put_back.ensures

pub returns-in_default : goal.returns-in_default
returns-in_default c = unchanged_in c.args.patch c.deref.result.now c.self.inside.patches.items c.self.inside.shadow c.args.self.now c.deref.ensures.value c.self.view_is (put_state c.args.id c.args.was) c.in_default.ensures

pub invariant_of-self : goal.invariant_of-self
invariant_of-self c =
    let same = numbers-set c.self.inside.patches.items c.in-Some.place c.index_mut.result.now c.put_back.new.self c.index_mut.ensures.value (ap (λ (i : Installed). i.patch) c.put_back.ensures) in
    (c.self.invariant.0, c.self.invariant.1, same ∙ c.self.invariant.2)
