use Rattle.std.proofs.Common.{◌++◌, List, false, true, not, sym, ap, subst, ◌∙◌, arith}
use Rattle.std.proofs.lemmas.List.{append-nil}
use Rattle.std.specs.Prelude.{find, ◌==◌}
use Rattle.klp_types.specs.declared.version.Version.{Version}
use Rattle.klp_types.specs.declared.version.Entry.{Entry}
use Rattle.klp_model.specs.Blocked.{blocked_among}
use Rattle.klp_stack.specs.Stack.{IsStack, entries_at}
use Rattle.klp_tasks.specs.Members.{IsSetOf}
use Rattle.klp_stack.proofs.ChangeLemmas.{site_there}
use Rattle.klp_patch.proofs.SiteLemmas.{looked}
use Rattle.klp_patch.proofs.BlockLemmas.{none_blocked, blocked_within}
use Rattle.klp_patch.proofs.blocked_versions.block_at.Goals as goal

pub returns-then-is_none : goal.returns-then-is_none
returns-then-is_none c versions old =
    let seen = entries_at c.args.sites.now.stacks c.args.site in
    let value = c.entry.ensures.value ∙ ap (λ (s : List (List Entry)). find (λ (e : Entry). e.patch == c.args.moving.now.patch) (entries_at s c.args.site)) c.stacks-stacks.ensures in
    let none = looked c.args.moving.now.patch seen c.entry.result false value (c.is_none.ensures ∙ ap not c.if-is_none.true) in
    subst (IsSetOf c.args.blocked.now) (sym (append-nil versions) ∙ ap (λ (more : List Version). versions ++ more) (sym (none_blocked c.args.site c.args.moving.now seen none))) old

pub insert-requires : goal.insert-requires
insert-requires c =
    let seen = entries_at c.args.sites.now.stacks c.args.site in
    let value = c.entry.ensures.value ∙ ap (λ (s : List (List Entry)). find (λ (e : Entry). e.patch == c.args.moving.now.patch) (entries_at s c.args.site)) c.stacks-stacks.ensures in
    let there = looked c.args.moving.now.patch seen c.entry.result true value (c.is_none.ensures ∙ ap not c.if-is_none.false) in
    blocked_within c.args.site c.args.moving.now c.in-Some.version seen (omega (arith, site_there c.args.moving.now.patch c.args.sites.now.stacks c.args.site there, c.requires.sites))
    (subst (λ (s : List (List Entry)). IsStack (entries_at s c.args.site)) c.stacks-stacks.ensures c.entry.ensures.stack) c.requires.number
    (c.in-Some.ensures ∙ ap (λ (s : List (List Entry)). blocked_among c.args.site c.args.moving.now (entries_at s c.args.site)) c.stacks-stacks.ensures)
