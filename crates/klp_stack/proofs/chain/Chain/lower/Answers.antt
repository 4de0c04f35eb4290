use Rattle.std.proofs.Common.{◌≡◌, suc, ◌-◌, sym, ap, subst, ◌∙◌, arith}
use Rattle.klp_stack.specs.declared.slot.Slot.{Slot}
use Rattle.klp_stack.specs.Stack.{place_of}
use Rattle.klp_stack.specs.Pool.{IsLinked, entries_from, slot_at, slot_below}
use Rattle.klp_stack.proofs.ChainLemmas.{its_place, in_others, one_linked, slot_read}
use Rattle.klp_stack.proofs.chain.Chain.lower.Goals as goal

pub returns-then-eq-clause-place : goal.returns-then-eq-clause-place
returns-then-eq-clause-place c =
    let next = ap (λ (s : Slot). s.older) (slot_read c.args.slots.now c.loop-index.above c.from.result c.index-slots-from.result c.from.ensures c.loop-index.invariant.linked.0) in
    its_place c.args.slots.now c.args.patch c.loop-index.index _ c.from-in-loop-index.result c.index-slots-from-in-loop-index.result (c.from-in-loop-index.ensures ∙ next) c.loop-index.invariant.linked.1
    c.loop-index-test.true (sym c.eq.ensures ∙ c.if-eq.true)
    ∙ c.loop-index.invariant.place

pub loop-index-preserved : goal.loop-index-preserved
loop-index-preserved c =
    let slots = c.args.slots.now in
    let left = c.loop-index.index in
    let next = ap (λ (s : Slot). s.older) (slot_read slots c.loop-index.above c.from.result c.index-slots-from.result c.from.ensures c.loop-index.invariant.linked.0) in
    let linked = subst (IsLinked slots left) (sym next) c.loop-index.invariant.linked.1 in
    let steps : suc (c.args.self.len - 1 - left) ≡ c.args.self.len - 1 - (left - 1) = omega (arith, c.loop-index.invariant.below, c.loop-index-test.true) in
    record {
      below = omega (arith, c.loop-index.invariant.below);
      linked = one_linked slots left _ linked c.loop-index-test.true;
      above =
          next ∙ ap (λ m. (slot_at slots m).older) c.loop-index.invariant.above
          ∙ ap (λ k. slot_below slots k c.args.self.newest) steps;
      place =
          in_others slots c.args.patch left _ c.from-in-loop-index.result c.index-slots-from-in-loop-index.result c.from-in-loop-index.ensures linked c.loop-index-test.true
          (sym c.eq.ensures ∙ c.if-eq.false)
          ∙ ap (λ m. place_of c.args.patch (entries_from slots left m)) next ∙ c.loop-index.invariant.place;
    }
