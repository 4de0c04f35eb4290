use Rattle.std.proofs.Common.{◌-◌, ◌<◌, suc, length, ap, sym, subst, ◌∙◌, arith}
use Rattle.klp_stack.specs.Pool.{slot_at, slot_below}
use Rattle.klp_stack.proofs.ChainLemmas.{linked_below}
use Rattle.klp_stack.proofs.pool.Pool.take_lower.Goals as goal

pub take_below-requires-clause-above : goal.take_below-requires-clause-above
take_below-requires-clause-above c =
    let slots = c.args.self.now.slots.items in
    let lower = c.in_ok-above.ensures.above in
    let steps = c.args.chain.len - 2 - c.in_ok-above.field-0.place.index in
    subst (λ n. n < length slots) (sym (lower.1 ∙ ap (λ s. slot_below s steps c.args.chain.newest) c.deref.ensures.value))
    (linked_below slots c.args.chain.len c.args.chain.newest c.requires.linked steps (omega (arith, lower.0)))

pub take_below-requires-clause-there : goal.take_below-requires-clause-there
take_below-requires-clause-there c =
    let slots = c.args.self.now.slots.items in
    let lower = c.in_ok-above.ensures.above in
    let steps = c.args.chain.len - 2 - c.in_ok-above.field-0.place.index in
    subst (λ n. (slot_at slots n).older < length slots) (sym (lower.1 ∙ ap (λ s. slot_below s steps c.args.chain.newest) c.deref.ensures.value))
    (linked_below slots c.args.chain.len c.args.chain.newest c.requires.linked (suc steps) (omega (arith, lower.0)))
