use Rattle.std.proofs.Common.{◌≡◌, ◌≤◌, ◌-◌}
use Rattle.klp_stack.specs.Stack.{has_entry}
use Rattle.klp_stack.specs.Pool.{IsLinked, entries_from, slot_below}
use Rattle.klp_stack.proofs.chain.Chain.above.Given as goal

abbrev pub invariant-loop-left : goal.invariant-loop-left
invariant-loop-left l = record {
  within : l.left ≤ l.fn.self.len;
  linked : IsLinked l.slots l.left l.number;
  number : l.number ≡ slot_below l.slots (l.fn.self.len - l.left) l.fn.self.newest;
  above : l.left ≤ l.index → l.above ≡ slot_below l.slots (l.fn.self.len - 1 - l.index) l.fn.self.newest;
  has : has_entry l.patch (entries_from l.slots l.left l.number) ≡ has_entry l.patch (entries_from l.slots l.fn.self.len l.fn.self.newest);
}
