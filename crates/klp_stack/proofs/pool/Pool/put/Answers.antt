use Rattle.std.proofs.Common.{ap, sym, ◌∙◌, arith}
use Rattle.klp_types.specs.declared.version.Entry.{Entry}
use Rattle.klp_stack.specs.Stack.{has_entry}
use Rattle.klp_stack.specs.Pool.{entries_from, entries_of}
use Rattle.klp_stack.proofs.ChainLemmas.{length_entries}
use Rattle.klp_stack.proofs.StackLemmas.{may_on_top, may_below}
use Rattle.klp_stack.proofs.pool.Pool.put.Goals as goal

pub returns-then-from-chain-clause-may : goal.returns-then-from-chain-clause-may
returns-then-from-chain-clause-may c =
    let slots = c.args.self.now.slots.items in
    c.put_lower.ensures.may
    ∙ may_below c.args.entry.patch c.args.index c.args.chain.len (entries_of slots c.args.chain) (omega (arith, c.if-from-ge-MAX_PATCHES.false, c.from.ensures, ap (λ (e : Entry). e.patch) c.entry.view_is))
    (λ same. c.if-from-chain.true (c.from-2.ensures ∙ same)) (sym (length_entries slots c.args.chain.len c.args.chain.newest))

pub returns-clause-may : goal.returns-clause-may
returns-clause-may c =
    let slots = c.args.self.now.slots.items in
    may_on_top c.args.entry.patch c.args.index c.args.chain.len (entries_of slots c.args.chain) (omega (arith, c.if-from-ge-MAX_PATCHES.false, c.from.ensures, ap (λ (e : Entry). e.patch) c.entry.view_is))
    (omega (arith, c.from-2.ensures, c.if-from-chain.false)) (sym (length_entries slots c.args.chain.len c.args.chain.newest))
    (sym (c.has.ensures ∙ ap (λ s. has_entry c.args.entry.patch (entries_from s c.args.chain.len c.args.chain.newest)) c.deref.ensures.value) ∙ c.if-has.false)
