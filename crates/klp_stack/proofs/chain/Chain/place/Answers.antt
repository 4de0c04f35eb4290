use Rattle.std.proofs.Common.{sym, ◌∙◌}
use Rattle.klp_stack.proofs.ChainLemmas.{its_place, in_rest, step}
use Rattle.klp_stack.proofs.chain.Chain.place.Goals as goal

pub returns-then-eq : goal.returns-then-eq
returns-then-eq c =
    its_place c.args.slots.now c.args.patch c.loop-index.index c.loop-index.number c.from.result c.index-slots-from.result c.from.ensures c.loop-index.invariant.linked c.loop-index-test.true
    (sym c.eq.ensures ∙ c.if-eq.true)
    ∙ c.loop-index.invariant.place

pub loop-index-preserved : goal.loop-index-preserved
loop-index-preserved c =
    let there = step c.args.slots.now c.loop-index.index c.loop-index.number c.from.result c.index-slots-from-in-loop-index.result c.from.ensures c.loop-index.invariant.linked c.loop-index-test.true in
    record {
      linked = there.linked;
      place =
          in_rest c.args.slots.now c.args.patch c.loop-index.index c.loop-index.number c.from.result c.index-slots-from-in-loop-index.result c.from.ensures c.loop-index.invariant.linked
          c.loop-index-test.true c.index-slots-from.result (sym c.eq.ensures ∙ c.if-eq.false)
          ∙ c.loop-index.invariant.place;
    }
