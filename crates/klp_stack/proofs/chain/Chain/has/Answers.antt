use Rattle.std.proofs.Common.{◌∙◌}
use Rattle.klp_stack.specs.Pool.{entries_from}
use Rattle.klp_stack.proofs.StackLemmas.{has_place}
use Rattle.klp_stack.proofs.chain.Chain.has.Goals as goal

pub returns-then-self-gt0 : goal.returns-then-self-gt0
returns-then-self-gt0 c = c.is_some.ensures ∙ has_place c.args.patch (entries_from c.args.slots.now c.args.self.len c.args.self.newest) c.place.result c.place.ensures
