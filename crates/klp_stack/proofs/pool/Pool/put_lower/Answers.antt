use Rattle.std.proofs.Common.{◌-◌, ◌<◌, length, ap, sym, subst, ◌∙◌, arith}
use Rattle.klp_stack.specs.Pool.{slot_below}
use Rattle.klp_stack.proofs.ChainLemmas.{linked_below}
use Rattle.klp_stack.proofs.pool.Pool.put_lower.Goals as goal

pub put_below-requires-clause-above : goal.put_below-requires-clause-above
put_below-requires-clause-above c =
    let slots = c.args.self.now.slots.items in
    let above = c.in_ok-above.ensures.above in
    let steps = c.args.chain.len - 1 - c.args.index in
    subst (λ n. n < length slots) (sym (above.1 ∙ ap (λ s. slot_below s steps c.args.chain.newest) c.deref.ensures.value))
    (linked_below slots c.args.chain.len c.args.chain.newest c.requires.linked steps (omega (arith, above.0)))
