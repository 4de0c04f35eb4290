use Rattle.std.proofs.Common.{sym, ap, ◌∙◌, ◌-◌, ◌∷◌, [], ◌++◌, length, get_or, arith, append_assoc, length-append}
use Rattle.klp_stack.specs.declared.slot.Slot.{Slot}
use Rattle.klp_stack.specs.Pool.{entries_from}
use Rattle.klp_stack.proofs.ChainLemmas.{step, slot_read}
use Rattle.klp_stack.proofs.chain.Chain.entries.Goals as goal

pub loop-index-preserved : goal.loop-index-preserved
loop-index-preserved c =
    let there = step c.args.slots.now c.loop-index._index c.loop-index.number c.from.result c.index-slots-from-in-loop-index.result c.from.ensures c.loop-index.invariant.linked c.loop-index-test.true in
    let slot = get_or c.args.slots.now c.from.result c.index-slots-from.result in
    let rest = entries_from c.args.slots.now (c.loop-index._index - 1) (get_or c.args.slots.now c.from.result c.index-slots-from-in-loop-index.result).older in
    let same =
    slot_read c.args.slots.now c.loop-index.number c.from.result c.index-slots-from.result c.from.ensures there.within
    ∙ sym (slot_read c.args.slots.now c.loop-index.number c.from.result c.index-slots-from-in-loop-index.result c.from.ensures there.within)
    in
    record {
      linked = there.linked;
      entries =
          ap (λ es. es ++ rest) c.push.ensures.items
          ∙ append_assoc c.loop-index.entries.items (slot.entry ∷ []) rest
          ∙ ap (λ es. c.loop-index.entries.items ++ es) (ap (λ (s : Slot). s.entry ∷ rest) same ∙ sym there.entries)
          ∙ c.loop-index.invariant.entries;
      count = omega (arith, ap length c.push.ensures.items, length-append c.loop-index.entries.items (slot.entry ∷ []), c.loop-index.invariant.count, c.loop-index-test.true);
    }
