use Rattle.std.proofs.Common.{set, map, ap, sym, refl, ◌∙◌, arith, None}
use Rattle.klp_stack.specs.declared.pool.Pool.{Pool}
use Rattle.klp_stack.specs.Stack.{entries_at, entries_of_others, place_of}
use Rattle.klp_stack.specs.Pool.{entries_of}
use Rattle.klp_stack.proofs.ChangeLemmas.{made, none_made}
use Rattle.klp_stack.proofs.StepLemmas.{looked, found_there, not_all_free, is_place, spare_is, taken_out}
use Rattle.klp_stack.proofs.stacks.Stacks.take.Goals as goal

pub take-requires-clause-linked : goal.take-requires-clause-linked
take-requires-clause-linked c =
    let look = looked c.self.inside.pool.slots.items c.self.inside.chains.items c.self.inside.pool.free c.self.inside.pool.spare c.self.invariant c.args.self.now c.self.view_is c.deref.result.now c.from-number.result c.args.site c.in_ok-chain.field-0.now c.deref.ensures.value (c.from-number.ensures ∙ c.site.view_is) c.in_ok-chain.ensures.lookup.3.0 (c.in_ok-chain.ensures.lookup.3.1 c.in_ok-chain.field-0.now) in
    (found_there c.self.inside.pool.slots.items c.self.inside.chains.items c.self.inside.pool.free c.self.inside.pool.spare c.self.invariant c.args.self.now c.self.view_is c.from-number.result c.args.site c.in_ok-chain.field-0.now (c.from-number.ensures ∙ c.site.view_is) look.within look.is).links

pub take-requires-clause-few : goal.take-requires-clause-few
take-requires-clause-few c =
    let look = looked c.self.inside.pool.slots.items c.self.inside.chains.items c.self.inside.pool.free c.self.inside.pool.spare c.self.invariant c.args.self.now c.self.view_is c.deref.result.now c.from-number.result c.args.site c.in_ok-chain.field-0.now c.deref.ensures.value (c.from-number.ensures ∙ c.site.view_is) c.in_ok-chain.ensures.lookup.3.0 (c.in_ok-chain.ensures.lookup.3.1 c.in_ok-chain.field-0.now) in
    (found_there c.self.inside.pool.slots.items c.self.inside.chains.items c.self.inside.pool.free c.self.inside.pool.spare c.self.invariant c.args.self.now c.self.view_is c.from-number.result c.args.site c.in_ok-chain.field-0.now (c.from-number.ensures ∙ c.site.view_is) look.within look.is).height

pub take-requires-clause-spare : goal.take-requires-clause-spare
take-requires-clause-spare c some =
    let look = looked c.self.inside.pool.slots.items c.self.inside.chains.items c.self.inside.pool.free c.self.inside.pool.spare c.self.invariant c.args.self.now c.self.view_is c.deref.result.now c.from-number.result c.args.site c.in_ok-chain.field-0.now c.deref.ensures.value (c.from-number.ensures ∙ c.site.view_is) c.in_ok-chain.ensures.lookup.3.0 (c.in_ok-chain.ensures.lookup.3.1 c.in_ok-chain.field-0.now) in
    not_all_free c.self.inside.pool.slots.items c.self.inside.chains.items c.self.inside.pool.free c.self.inside.pool.spare c.self.invariant c.args.self.now c.self.view_is c.from-number.result c.args.site c.in_ok-chain.field-0.now (c.from-number.ensures ∙ c.site.view_is) look.within look.is some

pub returns-in_err-place-clause-changes : goal.returns-in_err-place-clause-changes
returns-in_err-place-clause-changes c =
    let look = looked c.self.inside.pool.slots.items c.self.inside.chains.items c.self.inside.pool.free c.self.inside.pool.spare c.self.invariant c.args.self.now c.self.view_is c.deref.result.now c.from-number.result c.args.site c.in_ok-chain.field-0.now c.deref.ensures.value (c.from-number.ensures ∙ c.site.view_is) c.in_ok-chain.ensures.lookup.3.0 (c.in_ok-chain.ensures.lookup.3.1 c.in_ok-chain.field-0.now) in
    let none = is_place c.self.inside.pool.slots.items c.self.inside.chains.items c.self.inside.pool.free c.self.inside.pool.spare c.self.invariant c.args.self.now c.self.view_is c.from-number.result c.args.site c.in_ok-chain.field-0.now (c.from-number.ensures ∙ c.site.view_is) look.within look.is c.args.patch None c.in_err-place.ensures.place in
    none_made c.args.self.now _ c.args.site c.args.patch (ap (λ (p : Pool). map (entries_of p.slots.items) c.self.inside.chains.items) c.in_err-place.ensures.unchanged ∙ c.self.view_is) (sym none)

pub invariant_of-self-2 : goal.invariant_of-self-2
invariant_of-self-2 c =
    let look = looked c.self.inside.pool.slots.items c.self.inside.chains.items c.self.inside.pool.free c.self.inside.pool.spare c.self.invariant c.args.self.now c.self.view_is c.deref.result.now c.from-number.result c.args.site c.in_ok-chain.field-0.now c.deref.ensures.value (c.from-number.ensures ∙ c.site.view_is) c.in_ok-chain.ensures.lookup.3.0 (c.in_ok-chain.ensures.lookup.3.1 c.in_ok-chain.field-0.now) in
    (taken_out c.self.inside.pool.slots.items c.self.inside.chains.items c.self.inside.pool.free c.self.inside.pool.spare c.self.invariant c.args.self.now c.self.view_is c.from-number.result c.args.site c.in_ok-chain.field-0.now (c.from-number.ensures ∙ c.site.view_is) look.within look.is c.args.patch c.in_ok-place.place c.take.new.self.slots.items c.in_ok-place.left c.take.new.self.free c.take.new.self.spare c.in_ok-place.ensures.place
    c.in_ok-place.ensures.taken.within c.in_ok-place.ensures.taken.len c.in_ok-place.ensures.taken.links c.in_ok-place.ensures.taken.spare).invariant

pub returns-clause-last : goal.returns-clause-last
returns-clause-last c =
    let look = looked c.self.inside.pool.slots.items c.self.inside.chains.items c.self.inside.pool.free c.self.inside.pool.spare c.self.invariant c.args.self.now c.self.view_is c.deref.result.now c.from-number.result c.args.site c.in_ok-chain.field-0.now c.deref.ensures.value (c.from-number.ensures ∙ c.site.view_is) c.in_ok-chain.ensures.lookup.3.0 (c.in_ok-chain.ensures.lookup.3.1 c.in_ok-chain.field-0.now) in
    (taken_out c.self.inside.pool.slots.items c.self.inside.chains.items c.self.inside.pool.free c.self.inside.pool.spare c.self.invariant c.args.self.now c.self.view_is c.from-number.result c.args.site c.in_ok-chain.field-0.now (c.from-number.ensures ∙ c.site.view_is) look.within look.is c.args.patch c.in_ok-place.place c.take.new.self.slots.items c.in_ok-place.left c.take.new.self.free c.take.new.self.spare c.in_ok-place.ensures.place
    c.in_ok-place.ensures.taken.within c.in_ok-place.ensures.taken.len c.in_ok-place.ensures.taken.links c.in_ok-place.ensures.taken.spare).last

pub returns-clause-changes : goal.returns-clause-changes
returns-clause-changes c =
    let look = looked c.self.inside.pool.slots.items c.self.inside.chains.items c.self.inside.pool.free c.self.inside.pool.spare c.self.invariant c.args.self.now c.self.view_is c.deref.result.now c.from-number.result c.args.site c.in_ok-chain.field-0.now c.deref.ensures.value (c.from-number.ensures ∙ c.site.view_is) c.in_ok-chain.ensures.lookup.3.0 (c.in_ok-chain.ensures.lookup.3.1 c.in_ok-chain.field-0.now) in
    let out = taken_out c.self.inside.pool.slots.items c.self.inside.chains.items c.self.inside.pool.free c.self.inside.pool.spare c.self.invariant c.args.self.now c.self.view_is c.from-number.result c.args.site c.in_ok-chain.field-0.now (c.from-number.ensures ∙ c.site.view_is) look.within look.is c.args.patch c.in_ok-place.place c.take.new.self.slots.items c.in_ok-place.left c.take.new.self.free c.take.new.self.spare c.in_ok-place.ensures.place
    c.in_ok-place.ensures.taken.within c.in_ok-place.ensures.taken.len c.in_ok-place.ensures.taken.links c.in_ok-place.ensures.taken.spare in
    made c.args.self.now _ c.args.site c.args.patch (place_of c.args.patch (entries_at c.args.self.now c.args.site)) (entries_of_others c.args.patch (entries_at c.args.self.now c.args.site)) look.within out.stacks out.undo

pub returns-clause-room : goal.returns-clause-room
returns-clause-room c some =
    let look = looked c.self.inside.pool.slots.items c.self.inside.chains.items c.self.inside.pool.free c.self.inside.pool.spare c.self.invariant c.args.self.now c.self.view_is c.deref.result.now c.from-number.result c.args.site c.in_ok-chain.field-0.now c.deref.ensures.value (c.from-number.ensures ∙ c.site.view_is) c.in_ok-chain.ensures.lookup.3.0 (c.in_ok-chain.ensures.lookup.3.1 c.in_ok-chain.field-0.now) in
    let out = taken_out c.self.inside.pool.slots.items c.self.inside.chains.items c.self.inside.pool.free c.self.inside.pool.spare c.self.invariant c.args.self.now c.self.view_is c.from-number.result c.args.site c.in_ok-chain.field-0.now (c.from-number.ensures ∙ c.site.view_is) look.within look.is c.args.patch c.in_ok-place.place c.take.new.self.slots.items c.in_ok-place.left c.take.new.self.free c.take.new.self.spare c.in_ok-place.ensures.place
    c.in_ok-place.ensures.taken.within c.in_ok-place.ensures.taken.len c.in_ok-place.ensures.taken.links c.in_ok-place.ensures.taken.spare in
    let spare = spare_is c.take.new.self.slots.items (set c.self.inside.chains.items c.from-number.result c.in_ok-place.left) c.take.new.self.free c.take.new.self.spare out.invariant _ refl in
    omega (arith, spare, c.in_ok-place.ensures.taken.spare)
