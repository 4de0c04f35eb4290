use Rattle.std.proofs.Common.{◌<◌, length, ap, sym, subst, ◌∙◌, arith, add-one}
use Rattle.klp_stack.specs.declared.slot.Slot.{Slot}
use Rattle.klp_stack.specs.Pool.{slot_below}
use Rattle.klp_stack.proofs.ChainLemmas.{linked_below, slot_read}
use Rattle.klp_stack.proofs.chain.Chain.slot.Goals as goal

pub bounds-slots-from : goal.bounds-slots-from
bounds-slots-from c =
    subst (λ n. n < length c.args.slots.now) (sym (c.from.ensures ∙ c.loop.invariant.number))
    (linked_below c.args.slots.now c.args.self.len c.args.self.newest c.requires.linked c.loop.counter (omega (arith, c.loop-test.true, c.requires.within)))

pub bounds-slots-from-in-loop : goal.bounds-slots-from-in-loop
bounds-slots-from-in-loop c =
    subst (λ n. n < length c.args.slots.now) (sym (c.from.ensures ∙ c.loop.invariant.number))
    (linked_below c.args.slots.now c.args.self.len c.args.self.newest c.requires.linked c.loop.counter (omega (arith, c.loop-test.true, c.requires.within)))

pub loop-preserved : goal.loop-preserved
loop-preserved c =
    let there = linked_below c.args.slots.now c.args.self.len c.args.self.newest c.requires.linked c.loop.counter (omega (arith, c.loop-test.true, c.requires.within)) in
    record {
      number =
          ap (λ (s : Slot). s.older) (slot_read c.args.slots.now _ c.from.result c.index-slots-from.result (c.from.ensures ∙ c.loop.invariant.number) there)
          ∙ ap (λ n. slot_below c.args.slots.now n c.args.self.newest) (sym (add-one c.loop.counter));
      small = omega (arith, c.index-slots-from.element_fits);
    }

pub returns-clause-there : goal.returns-clause-there
returns-clause-there c =
    subst (λ n. n < length c.args.slots.now) (sym c.loop.invariant.number)
    (linked_below c.args.slots.now c.args.self.len c.args.self.newest c.requires.linked c.loop.counter (omega (arith, c.loop.auto, c.requires.within)))
