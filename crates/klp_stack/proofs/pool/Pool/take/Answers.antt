use Rattle.std.proofs.Common.{◌-◌, ◌==◌, ap, sym, ◌∙◌, arith, Some}
use Rattle.std.proofs.lemmas.Bool.{not-false}
use Rattle.klp_stack.specs.declared.slot.Slot.{Slot}
use Rattle.klp_stack.proofs.ChainLemmas.{its_place}
use Rattle.klp_stack.proofs.pool.Pool.take.Goals as goal

pub returns-clause-place : goal.returns-clause-place
returns-clause-place c =
    let newest = c.index.result.now in
    ap (λ (s : Slot). Some (record { index = c.args.chain.len - 1; func = s.entry.func })) c.index.ensures
    ∙ its_place c.args.self.now.slots.items c.args.patch c.args.chain.len c.args.chain.newest c.from.result newest c.from.ensures c.requires.linked (omega (arith, c.if-chain-eq0.false))
    (ap (λ (s : Slot). s.entry.patch == c.args.patch) (sym c.index.ensures) ∙ not-false _ (sym c.ne.ensures ∙ c.if-ne.false))
