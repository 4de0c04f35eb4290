use Rattle.std.proofs.Common.{◌≡◌, length}
use Rattle.klp_world.specs.Chained.{is_in, last_below}
use Rattle.klp_world.proofs.ChainLemmas.{IsOver, reach, height}
use Rattle.klp_world.proofs.chains.Chains.above.Given as goal

abbrev pub invariant-loop-next : goal.invariant-loop-next
invariant-loop-next l = record {
  over : IsOver (is_in l.self.links.items l.bucket) l.slot (length l.self.links.items) l.above;
  next : l.next ≡ last_below (is_in l.self.links.items l.bucket) (reach (length l.self.links.items) l.above);
}

abbrev pub decreases-loop-next : goal.decreases-loop-next
decreases-loop-next l = height l.next
