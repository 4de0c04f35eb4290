use Rattle.std.proofs.Common.{replicate, [], ap, ◌∙◌, arith, map}
use Rattle.klp_stack.specs.Pool.{entries_of}
use Rattle.klp_stack.proofs.OpeningLemmas.{no_entries, opening}
use Rattle.klp_stack.proofs.stacks.Stacks.new.Goals as goal

pub invariant_of-result : goal.invariant_of-result
invariant_of-result c =
    opening c.in_ok-pool.pool.slots.items c.in_ok-pool.pool.free c.in_ok-pool.pool.spare c.in_ok-pool.ensures c.loop.chains.items c.loop.counter c.loop.invariant

pub returns : goal.returns
returns c =
    ap (map (entries_of c.in_ok-pool.pool.slots.items)) c.loop.invariant ∙ no_entries c.in_ok-pool.pool.slots.items c.loop.counter
    ∙ ap (λ n. replicate n []) (omega (arith, c.loop.auto.counter-end, c.loop-test.false))
