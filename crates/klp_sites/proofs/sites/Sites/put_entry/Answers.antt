use Rattle.std.proofs.Common.{true, Some, refl, sym, ◌∙◌}
use Rattle.std.proofs.lemmas.Bool.{and_parts}
use Rattle.klp_types.specs.Entries.{is_empty}
use Rattle.klp_stack.specs.Stack.{entries_at}
use Rattle.klp_stack.specs.Undo.{put_entry}
use Rattle.klp_sites.specs.Table.{is_hooked_at}
use Rattle.klp_sites.proofs.HookedLemmas.{kept_turned, kept_unturned}
use Rattle.klp_sites.proofs.StepLemmas.{same_hook}
use Rattle.klp_sites.proofs.sites.Sites.put_entry.Goals as goal

pub invariant_of-self : goal.invariant_of-self
invariant_of-self c =
    let seen = c.self.inside.stacks in
    kept_turned c.self.inside.image seen c.self.inside.hooked.words c.self.invariant c.args.site (put_entry c.args.patch (Some c.in-Some.place) (entries_at seen c.args.site)) c.put.new.self c.put.ensures.stacks true
    (and_parts (is_empty (entries_at seen c.args.site)) _ (sym c.put.ensures.first ∙ c.if-put.true)).1 c.hook.new.self c.hook.ensures c.insert.new.self.words c.insert.ensures

pub invariant_of-self-else-put : goal.invariant_of-self-else-put
invariant_of-self-else-put c =
    let seen = c.self.inside.stacks in
    kept_unturned c.self.inside.image seen c.self.inside.hooked.words c.self.invariant c.args.site (put_entry c.args.patch (Some c.in-Some.place) (entries_at seen c.args.site)) c.put.new.self c.put.ensures.stacks
    (is_hooked_at seen c.args.site) refl (same_hook c.args.patch c.in-Some.place seen c.args.site c.put.new.self c.put.ensures.stacks (sym c.put.ensures.first ∙ c.if-put.false))
