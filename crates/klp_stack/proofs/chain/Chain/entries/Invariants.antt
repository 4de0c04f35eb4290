use Rattle.std.proofs.Common.{◌≡◌, ◌+◌, ◌++◌, length}
use Rattle.klp_stack.specs.Pool.{IsLinked, entries_from}
use Rattle.klp_stack.proofs.chain.Chain.entries.Given as goal

abbrev pub invariant-loop-index : goal.invariant-loop-index
invariant-loop-index l = record {
  linked : IsLinked l.slots l._index l.number;
  entries : l.entries.items ++ entries_from l.slots l._index l.number ≡ entries_from l.slots l.fn.self.len l.fn.self.newest;
  count : length l.entries.items + l._index ≡ l.fn.self.len;
}
