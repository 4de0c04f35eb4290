use Rattle.std.proofs.Common.{true, false, sym, ◌∙◌}
use Rattle.klp_stack.specs.Stack.{entries_at, entries_of_others}
use Rattle.klp_sites.proofs.HookedLemmas.{kept_turned, kept_unturned}
use Rattle.klp_sites.proofs.StepLemmas.{unhooked_by, hooked_by, hooked_at}
use Rattle.klp_sites.proofs.sites.Sites.take_out.Goals as goal

pub invariant_of-self-then-taken : goal.invariant_of-self-then-taken
invariant_of-self-then-taken c =
    let seen = c.self.inside.stacks in
    let others = entries_of_others c.args.patch (entries_at seen c.args.site) in
    let is = c.take.ensures.changes.stacks in
    kept_turned c.self.inside.image seen c.self.inside.hooked.words c.self.invariant c.args.site others c.take.new.self is false
    (unhooked_by seen c.args.site others c.take.new.self is (sym c.in_ok-taken.ensures.last ∙ c.if-taken.true)) c.unhook.new.self c.unhook.ensures c.remove.new.self.words c.remove.ensures

pub invariant_of-self-else-taken : goal.invariant_of-self-else-taken
invariant_of-self-else-taken c =
    let seen = c.self.inside.stacks in
    let others = entries_of_others c.args.patch (entries_at seen c.args.site) in
    let is = c.take.ensures.changes.stacks in
    let before = hooked_at c.args.patch (entries_at seen c.args.site) c.in_ok-taken.taken.place (sym c.in_ok-taken.ensures.place) in
    kept_unturned c.self.inside.image seen c.self.inside.hooked.words c.self.invariant c.args.site others c.take.new.self is true before
    (hooked_by seen c.args.site others c.take.new.self is before (sym c.in_ok-taken.ensures.last ∙ c.if-taken.false))
