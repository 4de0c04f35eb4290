use Rattle.std.proofs.Common.{sym, ap, subst, ◌∙◌}
use Rattle.klp_stack.specs.Stack.{entries_at, has_entry}
use Rattle.klp_stack.specs.Pool.{IsLinked, entries_from}
use Rattle.klp_stack.proofs.StackLemmas.{only_others}
use Rattle.klp_stack.proofs.StepLemmas.{read}
use Rattle.klp_stack.proofs.stacks.Stacks.has_only_others.Goals as goal

pub has-requires-clause-linked : goal.has-requires-clause-linked
has-requires-clause-linked c =
    subst (λ s. IsLinked s c.in-Some.chain.now.len c.in-Some.chain.now.newest) (sym c.deref-then-chain-gt0.ensures.value)
    (read c.self.inside.pool.slots.items c.self.inside.chains.items c.self.inside.pool.free c.self.inside.pool.spare c.self.invariant c.args.self.now c.self.view_is c.deref.result.now c.from.result
    c.args.site c.in-Some.chain.now c.deref.ensures.value (c.from.ensures ∙ c.site.view_is) c.in-Some.ensures.lookup.3.0 (c.in-Some.ensures.lookup.3.1 (record { newest = 0; len = 0 }))).links

pub has-requires-clause-few : goal.has-requires-clause-few
has-requires-clause-few c =
    (read c.self.inside.pool.slots.items c.self.inside.chains.items c.self.inside.pool.free c.self.inside.pool.spare c.self.invariant c.args.self.now c.self.view_is c.deref.result.now c.from.result
    c.args.site c.in-Some.chain.now c.deref.ensures.value (c.from.ensures ∙ c.site.view_is) c.in-Some.ensures.lookup.3.0 (c.in-Some.ensures.lookup.3.1 (record { newest = 0; len = 0 }))).height

pub returns-then-chain-gt0 : goal.returns-then-chain-gt0
returns-then-chain-gt0 c =
    let there = read c.self.inside.pool.slots.items c.self.inside.chains.items c.self.inside.pool.free c.self.inside.pool.spare c.self.invariant c.args.self.now c.self.view_is c.deref.result.now c.from.result
    c.args.site c.in-Some.chain.now c.deref.ensures.value (c.from.ensures ∙ c.site.view_is) c.in-Some.ensures.lookup.3.0 (c.in-Some.ensures.lookup.3.1 (record { newest = 0; len = 0 })) in
    only_others c.args.patch (entries_at c.args.self.now c.args.site) c.in-Some.chain.now.len c.has.result there.count c.if-chain-gt0.true
    (c.has.ensures ∙ ap (λ s. has_entry c.args.patch (entries_from s c.in-Some.chain.now.len c.in-Some.chain.now.newest)) c.deref-then-chain-gt0.ensures.value ∙ ap (has_entry c.args.patch) there.entries_are)
