use Rattle.std.proofs.Common.{◌≡◌, ◌<◌, ◌-◌, suc}
use Rattle.klp_stack.specs.Stack.{place_of}
use Rattle.klp_stack.specs.Pool.{IsLinked, entries_from, entries_below, slot_at, slot_below}
use Rattle.klp_stack.proofs.chain.Chain.lower.Given as goal

abbrev pub invariant-loop-index : goal.invariant-loop-index
invariant-loop-index l = record {
  below : l.index < l.fn.self.len;
  linked : IsLinked l.slots (suc l.index) l.above;
  above : l.above ≡ slot_below l.slots (l.fn.self.len - 1 - l.index) l.fn.self.newest;
  place : place_of l.patch (entries_from l.slots l.index (slot_at l.slots l.above).older) ≡ place_of l.patch (entries_below l.slots l.fn.self);
}
