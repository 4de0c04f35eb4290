use Rattle.std.proofs.Common.{◌≡◌}
use Rattle.klp_stack.specs.Stack.{place_of}
use Rattle.klp_stack.specs.Pool.{IsLinked, entries_from}
use Rattle.klp_stack.proofs.chain.Chain.place.Given as goal

abbrev pub invariant-loop-index : goal.invariant-loop-index
invariant-loop-index l = record {
  linked : IsLinked l.slots l.index l.number;
  place : place_of l.patch (entries_from l.slots l.index l.number) ≡ place_of l.patch (entries_from l.slots l.fn.self.len l.fn.self.newest);
}
