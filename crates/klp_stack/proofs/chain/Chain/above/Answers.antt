use Rattle.std.proofs.Common.{◌≡◌, suc, ◌-◌, sym, ap, ◌∙◌, arith}
use Rattle.klp_stack.specs.Pool.{slot_at, slot_below}
use Rattle.klp_stack.proofs.ChainLemmas.{passed}
use Rattle.klp_stack.proofs.chain.Chain.above.Goals as goal

pub loop-left-preserved-then-left-from : goal.loop-left-preserved-then-left-from
loop-left-preserved-then-left-from c =
    let slots = c.args.slots.now in
    let left = c.loop-left.left in
    let invariant = c.loop-left.invariant in
    let rest = passed slots c.args.patch left c.loop-left.number c.from-in-loop-left.result c.index-slots-from.result c.from-in-loop-left.ensures invariant.linked c.loop-left-test.true c.index-slots-from.is
    (sym c.eq.ensures ∙ c.if-eq.false) in
    let steps : suc (c.args.self.len - left) ≡ c.args.self.len - (left - 1) = omega (arith, invariant.within, c.loop-left-test.true) in
    record {
      within = omega (arith, invariant.within);
      linked = rest.linked;
      number = rest.older ∙ ap (λ m. (slot_at slots m).older) invariant.number ∙ ap (λ k. slot_below slots k c.args.self.newest) steps;
      above = λ low.
          let there : c.args.self.len - left ≡ c.args.self.len - 1 - c.args.index = omega (arith, c.if-left-from.true, c.from-in-loop-left-2.ensures, c.loop-left-test.true) in
          invariant.number ∙ ap (λ k. slot_below slots k c.args.self.newest) there;
      has = rest.has ∙ invariant.has;
    }

pub loop-left-preserved : goal.loop-left-preserved
loop-left-preserved c =
    let slots = c.args.slots.now in
    let left = c.loop-left.left in
    let invariant = c.loop-left.invariant in
    let rest = passed slots c.args.patch left c.loop-left.number c.from-in-loop-left.result c.index-slots-from.result c.from-in-loop-left.ensures invariant.linked c.loop-left-test.true c.index-slots-from.is
    (sym c.eq.ensures ∙ c.if-eq.false) in
    let steps : suc (c.args.self.len - left) ≡ c.args.self.len - (left - 1) = omega (arith, invariant.within, c.loop-left-test.true) in
    record {
      within = omega (arith, invariant.within);
      linked = rest.linked;
      number = rest.older ∙ ap (λ m. (slot_at slots m).older) invariant.number ∙ ap (λ k. slot_below slots k c.args.self.newest) steps;
      above = λ low. invariant.above (omega (arith, low, c.if-left-from.false, c.from-in-loop-left-2.ensures));
      has = rest.has ∙ invariant.has;
    }
