use Rattle.std.proofs.Common.{◌∙◌}
use Rattle.klp_stack.proofs.StepLemmas.{looked, found_there, free_there, put_again}
use Rattle.klp_stack.proofs.stacks.Stacks.put.Goals as goal

pub put-requires-clause-linked : goal.put-requires-clause-linked
put-requires-clause-linked c =
    let look = looked c.self.inside.pool.slots.items c.self.inside.chains.items c.self.inside.pool.free c.self.inside.pool.spare c.self.invariant c.args.self.now c.self.view_is c.deref.result.now c.from-number.result c.args.site c.in-Some.field-0.now c.deref.ensures.value (c.from-number.ensures ∙ c.site.view_is) c.in-Some.ensures.lookup.3.0 (c.in-Some.ensures.lookup.3.1 c.in-Some.field-0.now) in
    (found_there c.self.inside.pool.slots.items c.self.inside.chains.items c.self.inside.pool.free c.self.inside.pool.spare c.self.invariant c.args.self.now c.self.view_is c.from-number.result c.args.site c.in-Some.field-0.now (c.from-number.ensures ∙ c.site.view_is) look.within look.is).links

pub put-requires-clause-few : goal.put-requires-clause-few
put-requires-clause-few c =
    let look = looked c.self.inside.pool.slots.items c.self.inside.chains.items c.self.inside.pool.free c.self.inside.pool.spare c.self.invariant c.args.self.now c.self.view_is c.deref.result.now c.from-number.result c.args.site c.in-Some.field-0.now c.deref.ensures.value (c.from-number.ensures ∙ c.site.view_is) c.in-Some.ensures.lookup.3.0 (c.in-Some.ensures.lookup.3.1 c.in-Some.field-0.now) in
    (found_there c.self.inside.pool.slots.items c.self.inside.chains.items c.self.inside.pool.free c.self.inside.pool.spare c.self.invariant c.args.self.now c.self.view_is c.from-number.result c.args.site c.in-Some.field-0.now (c.from-number.ensures ∙ c.site.view_is) look.within look.is).height

pub put-requires-clause-there : goal.put-requires-clause-there
put-requires-clause-there c =
    let look = looked c.self.inside.pool.slots.items c.self.inside.chains.items c.self.inside.pool.free c.self.inside.pool.spare c.self.invariant c.args.self.now c.self.view_is c.deref.result.now c.from-number.result c.args.site c.in-Some.field-0.now c.deref.ensures.value (c.from-number.ensures ∙ c.site.view_is) c.in-Some.ensures.lookup.3.0 (c.in-Some.ensures.lookup.3.1 c.in-Some.field-0.now) in
    free_there c.self.inside.pool.slots.items c.self.inside.chains.items c.self.inside.pool.free c.self.inside.pool.spare c.self.invariant c.args.self.now c.self.view_is c.from-number.result c.args.site c.in-Some.field-0.now (c.from-number.ensures ∙ c.site.view_is) look.within look.is c.requires

pub invariant_of-self-2 : goal.invariant_of-self-2
invariant_of-self-2 c =
    let look = looked c.self.inside.pool.slots.items c.self.inside.chains.items c.self.inside.pool.free c.self.inside.pool.spare c.self.invariant c.args.self.now c.self.view_is c.deref.result.now c.from-number.result c.args.site c.in-Some.field-0.now c.deref.ensures.value (c.from-number.ensures ∙ c.site.view_is) c.in-Some.ensures.lookup.3.0 (c.in-Some.ensures.lookup.3.1 c.in-Some.field-0.now) in
    (put_again c.self.inside.pool.slots.items c.self.inside.chains.items c.self.inside.pool.free c.self.inside.pool.spare c.self.invariant c.args.self.now c.self.view_is c.from-number.result c.args.site c.in-Some.field-0.now (c.from-number.ensures ∙ c.site.view_is) look.within look.is c.requires c.args.patch c.args.place c.put.new.self.slots.items c.in-Some-put.grown c.put.new.self.free c.put.new.self.spare c.in-Some-put.ensures.may
    c.in-Some-put.ensures.put.links c.in-Some-put.ensures.put.len c.in-Some-put.ensures.put.free c.in-Some-put.ensures.put.spare).invariant

pub returns-clause-first : goal.returns-clause-first
returns-clause-first c =
    let look = looked c.self.inside.pool.slots.items c.self.inside.chains.items c.self.inside.pool.free c.self.inside.pool.spare c.self.invariant c.args.self.now c.self.view_is c.deref.result.now c.from-number.result c.args.site c.in-Some.field-0.now c.deref.ensures.value (c.from-number.ensures ∙ c.site.view_is) c.in-Some.ensures.lookup.3.0 (c.in-Some.ensures.lookup.3.1 c.in-Some.field-0.now) in
    (put_again c.self.inside.pool.slots.items c.self.inside.chains.items c.self.inside.pool.free c.self.inside.pool.spare c.self.invariant c.args.self.now c.self.view_is c.from-number.result c.args.site c.in-Some.field-0.now (c.from-number.ensures ∙ c.site.view_is) look.within look.is c.requires c.args.patch c.args.place c.put.new.self.slots.items c.in-Some-put.grown c.put.new.self.free c.put.new.self.spare c.in-Some-put.ensures.may
    c.in-Some-put.ensures.put.links c.in-Some-put.ensures.put.len c.in-Some-put.ensures.put.free c.in-Some-put.ensures.put.spare).first

pub returns-clause-stacks : goal.returns-clause-stacks
returns-clause-stacks c =
    let look = looked c.self.inside.pool.slots.items c.self.inside.chains.items c.self.inside.pool.free c.self.inside.pool.spare c.self.invariant c.args.self.now c.self.view_is c.deref.result.now c.from-number.result c.args.site c.in-Some.field-0.now c.deref.ensures.value (c.from-number.ensures ∙ c.site.view_is) c.in-Some.ensures.lookup.3.0 (c.in-Some.ensures.lookup.3.1 c.in-Some.field-0.now) in
    (put_again c.self.inside.pool.slots.items c.self.inside.chains.items c.self.inside.pool.free c.self.inside.pool.spare c.self.invariant c.args.self.now c.self.view_is c.from-number.result c.args.site c.in-Some.field-0.now (c.from-number.ensures ∙ c.site.view_is) look.within look.is c.requires c.args.patch c.args.place c.put.new.self.slots.items c.in-Some-put.grown c.put.new.self.free c.put.new.self.spare c.in-Some-put.ensures.may
    c.in-Some-put.ensures.put.links c.in-Some-put.ensures.put.len c.in-Some-put.ensures.put.free c.in-Some-put.ensures.put.spare).stacks
