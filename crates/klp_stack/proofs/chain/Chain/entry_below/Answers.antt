use Rattle.std.proofs.Common.{ap, sym, ◌∙◌, Some}
use Rattle.klp_stack.specs.declared.slot.Slot.{Slot}
use Rattle.klp_stack.proofs.ChainLemmas.{entry_at, no_entry_at, linked_below, slot_read}
use Rattle.klp_stack.proofs.chain.Chain.entry_below.Goals as goal

pub returns-then-newer-self : goal.returns-then-newer-self
returns-then-newer-self c =
    let there = linked_below c.args.slots.now c.args.self.len c.args.self.newest c.requires c.args.newer c.if-newer-self.true in
    ap (λ (s : Slot). Some s.entry) (slot_read c.args.slots.now _ c.from.result c.index-slots-from.result (c.from.ensures ∙ c.slot-number.ensures.value) there)
    ∙ sym (entry_at c.args.slots.now c.args.self.len c.args.self.newest c.args.newer c.if-newer-self.true)

pub returns-else-newer-self : goal.returns-else-newer-self
returns-else-newer-self c = sym (no_entry_at c.args.slots.now c.args.self.len c.args.self.newest c.args.newer c.if-newer-self.false)
