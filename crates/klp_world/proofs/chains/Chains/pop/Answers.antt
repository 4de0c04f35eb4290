use Rattle.std.proofs.Common.{◌∷◌, [], length, length-append, set, sym, ap, subst, ◌∙◌, arith}
use Rattle.klp_world.specs.Chained.{IsLinked}
use Rattle.klp_world.proofs.ChainLemmas.{popped_linked}
use Rattle.klp_world.proofs.chains.Chains.pop.Goals as goal

pub returns-clause-chained : goal.returns-clause-chained
returns-clause-chained c =
    let heads = c.args.self.now.newest.items in
    let link = c.in_ok-older.field-0 in
    let left = c.pop.new.self.items in
    let ends = c.in_ok-older.ensures.items in
    let linked = popped_linked heads c.args.self.now.links.items left c.requires.chained.linked link ends in
    let shorter = ap length ends ∙ length-append left (link ∷ []) in
    record {
      linked = subst (λ b. IsLinked (set heads b link.older) left) (sym c.from.ensures) linked;
      few = omega (arith, c.requires.chained.few);
      room = omega (arith, c.requires.chained.room, c.pop.ensures.capacity);
    }
