use Rattle.std.proofs.Common.{◌≤◌, ap, sym, ◌∙◌, None, drop, ◌+◌, subst, length, arith}
use Rattle.klp_types.specs.declared.limits.TheConstants.{MAX_SITES}
use Rattle.klp_stack.specs.Stack.{entries_at}
use Rattle.klp_patch.specs.Covered.{is_covered}
use Rattle.klp_patch_events.proofs.ListLemmas.{next_left}
use Rattle.klp_patch_events.proofs.RoomLemmas.{most_at}
use Rattle.klp_patch_events.proofs.CompleteLemmas.{SoFar, next_so_far, few_functions, where_covered, covered_none, none_behind}
use Rattle.klp_patch_events.proofs.replaced.unpatch_each.Goals as goal

pub unpatch_sites-requires-clause-records : goal.unpatch_sites-requires-clause-records
unpatch_sites-requires-clause-records g c =
    let sites : length c.loop-patch.sites.stacks ≤ MAX_SITES = subst (λ n. n ≤ MAX_SITES) c.sites.ensures.value c.if-prove.false in
    let few = few_functions c.args.catalog.now c.patch-item.result c.functions.result.now c.functions.ensures.setting c.if-prove-2.false in
    let most = most_at c.args.catalog.now c.patch-item.result c.loop-patch.sites few sites in
    let budget = c.loop-patch.invariant.budget in
    let all = c.requires.records in
    let room = c.loop-patch.invariant.room in
    omega (arith, most, budget, all, room)

pub loop-patch-preserved : goal.loop-patch-preserved
loop-patch-preserved g c =
    let sites : length c.loop-patch.sites.stacks ≤ MAX_SITES = subst (λ n. n ≤ MAX_SITES) c.sites.ensures.value c.if-prove.false in
    let few = few_functions c.args.catalog.now c.patch-item.result c.functions.result.now c.functions.ensures.setting c.if-prove-2.false in
    let rest = drop (c.loop-patch.patch-index + 1) c.args.patches.now in
    next_so_far c.args.catalog.now c.args.sites.now c.loop-patch.sites c.unpatch_sites.new.sites c.args.log.now c.loop-patch.log c.unpatch_sites.new.log
    c.args.patches.now rest c.patch-item.result
    (subst (λ left. SoFar c.args.catalog.now c.args.sites.now c.loop-patch.sites c.args.log.now c.loop-patch.log c.args.patches.now left)
    (next_left c.args.patches.now c.loop-patch.patch-index c.patch-item.result c.loop-patch-test.true c.patch-item.is) c.loop-patch.invariant)
    few sites c.unpatch_sites.ensures.entries c.unpatch_sites.ensures.notes

pub returns-clause-entries : goal.returns-clause-entries
returns-clause-entries g c = λ site.
    let covered = is_covered c.args.sites.now None site in
    sym (covered_none covered (entries_at c.loop-patch.sites.stacks site))
    ∙ ap (λ left. where_covered covered left (entries_at c.loop-patch.sites.stacks site)) (sym (none_behind c.args.patches.now c.loop-patch.patch-index c.loop-patch-test.false))
    ∙ c.loop-patch.invariant.entries site

pub returns-clause-logged : goal.returns-clause-logged
returns-clause-logged g c = c.loop-patch.invariant.back
