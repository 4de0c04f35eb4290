use Rattle.std.proofs.Common.{rules, refl, sym, ap, subst, false, List, ◌∙◌}
use Rattle.std.specs.Prelude.{find, ◌==◌}
use Rattle.klp_types.specs.declared.version.Entry.{Entry}
use Rattle.klp_stack.specs.Stack.{IsStack, entries_at, entries_of_others}
use Rattle.klp_patch.specs.Changes.{without_nop}
use Rattle.klp_patch.proofs.SiteLemmas.{none_of_sites, made_alike, unmade_at, looked, none_is, no_nop, nop_goes, function_stays}
use Rattle.klp_patch.proofs.site_entry.take_nop.Goals as goal

pub returns-then-is_none-clause-entries : goal.returns-then-is_none-clause-entries
returns-then-is_none-clause-entries c =
    let seen = entries_at c.args.sites.now.stacks c.args.site in
    let stack = subst (λ (s : List (List Entry)). IsStack (entries_at s c.args.site)) c.stacks-stacks.ensures c.in-Some.ensures.stack in
    let value = c.in-Some.ensures.value ∙ ap (λ (s : List (List Entry)). find (λ (e : Entry). e.patch == c.args.patch) (entries_at s c.args.site)) c.stacks-stacks.ensures in
    made_alike c.args.sites.now c.take.new.sites c.args.site (λ other entries. entries_of_others c.args.patch entries) (λ other entries. without_nop c.args.patch entries) c.take.ensures.entries
    (sym (nop_goes c.args.patch seen c.in-Some.entry stack (sym value) (none_is c.in-Some.entry.func c.is_none.result c.is_none.ensures ∙ c.if-is_none.true)))

pub returns-else-is_none-clause-entries : goal.returns-else-is_none-clause-entries
returns-else-is_none-clause-entries c =
    let seen = entries_at c.args.sites.now.stacks c.args.site in
    let stack = subst (λ (s : List (List Entry)). IsStack (entries_at s c.args.site)) c.stacks-stacks.ensures c.in-Some.ensures.stack in
    let value = c.in-Some.ensures.value ∙ ap (λ (s : List (List Entry)). find (λ (e : Entry). e.patch == c.args.patch) (entries_at s c.args.site)) c.stacks-stacks.ensures in
    unmade_at c.args.sites.now c.args.site (λ other entries. without_nop c.args.patch entries)
    (function_stays c.args.patch seen c.in-Some.entry stack (sym value) (none_is c.in-Some.entry.func c.is_none.result c.is_none.ensures ∙ c.if-is_none.false))

pub returns-in_default-clause-entries : goal.returns-in_default-clause-entries
returns-in_default-clause-entries c =
    let seen = entries_at c.args.sites.now.stacks c.args.site in
    let value = c.in_default.ensures.value ∙ ap (λ (s : List (List Entry)). find (λ (e : Entry). e.patch == c.args.patch) (entries_at s c.args.site)) c.stacks-stacks.ensures in
    unmade_at c.args.sites.now c.args.site (λ other entries. without_nop c.args.patch entries) (no_nop c.args.patch seen (looked c.args.patch seen _ false value refl))

pub returns-in_default-clause-notes : goal.returns-in_default-clause-notes
returns-in_default-clause-notes c = search (rules, none_of_sites)
