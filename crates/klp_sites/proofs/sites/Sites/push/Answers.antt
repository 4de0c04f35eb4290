use Rattle.std.proofs.Common.{true, ◌∷◌, ap, not, sym, ◌∙◌}
use Rattle.klp_stack.specs.Stack.{entries_at}
use Rattle.klp_sites.proofs.HookedLemmas.{kept_turned, kept_unturned}
use Rattle.klp_sites.proofs.StepLemmas.{hooked_now}
use Rattle.klp_sites.proofs.sites.Sites.push.Goals as goal

pub invariant_of-self : goal.invariant_of-self
invariant_of-self c =
    let seen = c.self.inside.stacks in
    let older = entries_at seen c.args.site in
    let is = c.push-is_first.ensures.changes.stacks in
    let there = rw (← c.self.view_is) at c.requires.there in
    kept_turned c.self.inside.image seen c.self.inside.hooked.words c.self.invariant c.args.site (c.args.entry ∷ older) c.push-is_first.new.self is true
    (hooked_now seen c.args.site c.args.entry older c.push-is_first.new.self is there) c.hook.new.self c.hook.ensures c.insert.new.self.words c.insert.ensures

pub invariant_of-self-else-is_first : goal.invariant_of-self-else-is_first
invariant_of-self-else-is_first c =
    let seen = c.self.inside.stacks in
    let older = entries_at seen c.args.site in
    let is = c.push-is_first.ensures.changes.stacks in
    let there = rw (← c.self.view_is) at c.requires.there in
    kept_unturned c.self.inside.image seen c.self.inside.hooked.words c.self.invariant c.args.site (c.args.entry ∷ older) c.push-is_first.new.self is true
    (ap not (sym c.push-is_first.ensures.first ∙ c.if-is_first.false)) (hooked_now seen c.args.site c.args.entry older c.push-is_first.new.self is there)
