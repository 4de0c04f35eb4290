use Rattle.std.proofs.Common.{◌≡◌, ◌<◌}
use Rattle.klp_stack.specs.Pool.{slot_below}
use Rattle.klp_stack.proofs.chain.Chain.slot.Given as goal

abbrev pub invariant-loop : goal.invariant-loop
invariant-loop l = record {
  number : l.number ≡ slot_below l.slots l.counter l.fn.self.newest;
  small : l.number < 65536;
}
