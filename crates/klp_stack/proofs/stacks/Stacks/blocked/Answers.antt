use Rattle.std.proofs.Common.{sym, subst, ◌∙◌}
use Rattle.klp_stack.specs.Pool.{IsLinked}
use Rattle.klp_stack.proofs.StepLemmas.{read}
use Rattle.klp_stack.proofs.stacks.Stacks.blocked.Goals as goal

pub blocked-requires-clause-linked : goal.blocked-requires-clause-linked
blocked-requires-clause-linked c =
    subst (λ s. IsLinked s c.in-Some.chain.now.len c.in-Some.chain.now.newest) (sym c.deref-in-Some.ensures.value)
    (read c.self.inside.pool.slots.items c.self.inside.chains.items c.self.inside.pool.free c.self.inside.pool.spare c.self.invariant c.args.self.now c.self.view_is c.deref.result.now c.from.result
    c.args.site c.in-Some.chain.now c.deref.ensures.value (c.from.ensures ∙ c.site.view_is) c.in-Some.ensures.lookup.3.0 (c.in-Some.ensures.lookup.3.1 (record { newest = 0; len = 0 }))).links

pub blocked-requires-clause-few : goal.blocked-requires-clause-few
blocked-requires-clause-few c =
    (read c.self.inside.pool.slots.items c.self.inside.chains.items c.self.inside.pool.free c.self.inside.pool.spare c.self.invariant c.args.self.now c.self.view_is c.deref.result.now c.from.result
    c.args.site c.in-Some.chain.now c.deref.ensures.value (c.from.ensures ∙ c.site.view_is) c.in-Some.ensures.lookup.3.0 (c.in-Some.ensures.lookup.3.1 (record { newest = 0; len = 0 }))).height
