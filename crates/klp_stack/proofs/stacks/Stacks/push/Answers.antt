use Rattle.std.proofs.Common.{◌∷◌, ◌∙◌, None, arith}
use Rattle.klp_stack.specs.Stack.{entries_at}
use Rattle.klp_stack.proofs.ChangeLemmas.{made, pushed_undo}
use Rattle.klp_stack.proofs.StackLemmas.{empty_is}
use Rattle.klp_stack.proofs.StepLemmas.{found_there, some_free, free_there, push_done}
use Rattle.klp_stack.proofs.stacks.Stacks.push.Goals as goal

pub push-requires-clause-spare : goal.push-requires-clause-spare
push-requires-clause-spare c =
    some_free c.self.inside.pool.slots.items c.self.inside.chains.items c.self.inside.pool.free c.self.inside.pool.spare c.self.invariant c.args.self.now c.self.view_is c.from-number.result c.args.site c.index-chain.result.now (c.from-number.ensures ∙ c.site.view_is) c.requires.there c.index-chain.ensures c.requires.room

pub push-requires-clause-there : goal.push-requires-clause-there
push-requires-clause-there c =
    free_there c.self.inside.pool.slots.items c.self.inside.chains.items c.self.inside.pool.free c.self.inside.pool.spare c.self.invariant c.args.self.now c.self.view_is c.from-number.result c.args.site c.index-chain.result.now (c.from-number.ensures ∙ c.site.view_is) c.requires.there c.index-chain.ensures c.requires.room

pub push-requires-clause-few : goal.push-requires-clause-few
push-requires-clause-few c =
    omega (arith, (found_there c.self.inside.pool.slots.items c.self.inside.chains.items c.self.inside.pool.free c.self.inside.pool.spare c.self.invariant c.args.self.now c.self.view_is c.from-number.result c.args.site c.index-chain.result.now (c.from-number.ensures ∙ c.site.view_is) c.requires.there c.index-chain.ensures).height)

pub invariant_of-self : goal.invariant_of-self
invariant_of-self c =
    (push_done c.self.inside.pool.slots.items c.self.inside.chains.items c.self.inside.pool.free c.self.inside.pool.spare c.self.invariant c.args.self.now c.self.view_is c.from-number.result c.args.site c.index-chain.result.now (c.from-number.ensures ∙ c.site.view_is) c.requires.there c.index-chain.ensures c.requires.room c.args.entry c.push.new.self.slots.items c.push.result c.push.new.self.free c.push.new.self.spare c.requires.fresh c.requires.number c.push.ensures.chain
    c.push.ensures.slots c.push.ensures.free c.push.ensures.spare).invariant

pub returns-clause-changes : goal.returns-clause-changes
returns-clause-changes c =
    let pushed = push_done c.self.inside.pool.slots.items c.self.inside.chains.items c.self.inside.pool.free c.self.inside.pool.spare c.self.invariant c.args.self.now c.self.view_is c.from-number.result c.args.site c.index-chain.result.now (c.from-number.ensures ∙ c.site.view_is) c.requires.there c.index-chain.ensures c.requires.room c.args.entry c.push.new.self.slots.items c.push.result c.push.new.self.free c.push.new.self.spare c.requires.fresh c.requires.number c.push.ensures.chain
    c.push.ensures.slots c.push.ensures.free c.push.ensures.spare in
    made c.args.self.now _ c.args.site c.args.entry.patch None (c.args.entry ∷ entries_at c.args.self.now c.args.site) c.requires.there pushed.stacks
    (pushed_undo c.args.entry (entries_at c.args.self.now c.args.site) c.requires.fresh)

pub returns-clause-first : goal.returns-clause-first
returns-clause-first c =
    empty_is (entries_at c.args.self.now c.args.site) c.index-chain.result.now.len (found_there c.self.inside.pool.slots.items c.self.inside.chains.items c.self.inside.pool.free c.self.inside.pool.spare c.self.invariant c.args.self.now c.self.view_is c.from-number.result c.args.site c.index-chain.result.now (c.from-number.ensures ∙ c.site.view_is) c.requires.there c.index-chain.ensures).count
