use Rattle.std.proofs.Common.{◌≡◌, ◌≤◌, ◌+◌, ◌*◌, ℕ, Bool, List, refl, sym, ap, ◌∙◌, None, reverse, length, arith, subst, map}
use Rattle.std.specs.List.{count_by}
use Rattle.std.proofs.lemmas.List.{length-append}
use Rattle.std.proofs.lemmas.List.Sums.{count_by-le-length}
use Rattle.klp_types.specs.Image.{object_of}
use Rattle.klp_types.specs.Entries.{entries_from}
use Rattle.klp_types.specs.Records.{RecordList}
use Rattle.klp_types.specs.World.{Installed, installed_before as before_list}
use Rattle.klp_model.specs.State.{installed_patches}
use Rattle.klp_model.specs.Entries.{is_site_loaded, entries_of}
use Rattle.klp_catalog.specs.States.{installed_before, is_cumulative}
use Rattle.klp_stack.specs.Stack.{entries_at}
use Rattle.klp_sites.specs.Table.{is_stacked}
use Rattle.klp_patch.specs.Changes.{without_nop, hooked_count}
use Rattle.klp_patch.specs.Covered.{is_covered}
use Rattle.klp_manager_state.specs.Rows.{rows_in}
use Rattle.klp_patch_events.proofs.BackLemmas.{patch_back}
use Rattle.klp_manager_state.specs.Managed.{setting_in, state_in}
use Rattle.klp_patch_events.proofs.CompleteLemmas.{without_all}
use Rattle.klp_patch_events.proofs.CompleteListLemmas.{before_numbers, before_fewer}
use Rattle.klp_patch_events.proofs.CompleteTaskLemmas.{own_in}
use Rattle.klp_patch_events.proofs.EntryLemmas.{loaded_in_scope}
use Rattle.klp_patch_events.proofs.CompleteSiteLemmas.{nowhere_else, both_out, count_before}
use Rattle.klp_patch_events.proofs.completing.replace_sites.Goals as goal

few_older : (test : ℕ → Bool) (patch logged hooked sites : ℕ) (installed older : List ℕ) → older ≡ installed_before patch installed → length installed ≤ 16 → count_by test installed ≤ 2
    → logged ≤ 64 → hooked ≤ sites → sites ≤ 256 → logged + hooked + 64 * length older + 256 * count_by test older ≤ 1856
few_older test patch logged hooked sites installed older are few two short hooks within =
    let fewer = before_fewer patch installed in
    let count = count_before test patch installed in
    let lengths = ap (λ ps. length ps) are in
    let counts = ap (count_by test) are in
    omega (arith, fewer, count, lengths, counts, few, two, short, hooks, within)

pub unpatch_each-requires-clause-own : goal.unpatch_each-requires-clause-own
unpatch_each-requires-clause-own g c = own_in c.entries_are_of_their_patches.ensures.own c.args.state.now c.args.catalog.now c.requires.kept.entries

pub unpatch_each-requires-clause-records : goal.unpatch_each-requires-clause-records
unpatch_each-requires-clause-records g c =
    let parts = c.args.state.now in
    let catalog = c.args.catalog.now in
    let two = c.at_most_two_patches_replace.ensures (setting_in parts catalog) (state_in parts catalog) c.requires.kept.allowed in
    let count = subst (λ ps. count_by (is_cumulative catalog) ps ≤ 2) (sym c.installed.ensures.value) two in
    let all = few_older (is_cumulative catalog) c.args.moving.now.patch (length parts.log.logged) (hooked_count parts.sites) (length parts.sites.stacks) c.installed.result.now
    c.older_than-older.result.now c.older_than-older.ensures c.installed.ensures.limit count c.requires.records (count_by-le-length is_stacked parts.sites.stacks)
    (subst (λ n. n ≤ 256) c.sites.ensures.value c.if-prove.false) in
    omega (arith, all)

pub drop_nops-requires-clause-records : goal.drop_nops-requires-clause-records
drop_nops-requires-clause-records g c =
    let logged = c.unpatch_each.ensures.records in
    let parts = c.args.state.now in
    let catalog = c.args.catalog.now in
    let two = c.at_most_two_patches_replace.ensures (setting_in parts catalog) (state_in parts catalog) c.requires.kept.allowed in
    let count = subst (λ ps. count_by (is_cumulative catalog) ps ≤ 2) (sym c.installed.ensures.value) two in
    let all = few_older (is_cumulative catalog) c.args.moving.now.patch (length parts.log.logged) (hooked_count parts.sites) (length parts.sites.stacks) c.installed.result.now
    c.older_than-older.result.now c.older_than-older.ensures c.installed.ensures.limit count c.requires.records (count_by-le-length is_stacked parts.sites.stacks)
    (subst (λ n. n ≤ 256) c.sites.ensures.value c.if-prove.false) in
    let sites = subst (λ n. n ≤ 256) c.sites-2.ensures.value c.if-prove-2.false in
    let room = c.unpatch_each.ensures.log in
    omega (arith, logged, all, sites, room)

pub returns-clause-entries : goal.returns-clause-entries
returns-clause-entries g c = λ site.
    let parts = c.args.state.now in
    let setting = setting_in parts c.args.catalog.now in
    let state = state_in parts c.args.catalog.now in
    let move = c.args.moving.now in
    let older = c.older_than-older.result.now in
    let are = c.older_than-older.ensures ∙ ap (installed_before move.patch) c.installed.ensures.value ∙ sym (before_numbers move.patch parts.world.installed) in
    c.drop_nops.ensures.entries.entries site
    ∙ ap (without_nop move.patch) (c.unpatch_each.ensures.entries site
    ∙ nowhere_else (without_all older) refl (is_covered parts.sites None site) (is_site_loaded setting state site) (loaded_in_scope state (object_of parts.sites.image.objects site))
    (entries_at parts.sites.stacks site) (entries_from setting site (reverse (installed_patches state))) (c.requires.kept.entries site)
    ∙ ap (without_all older) (c.requires.kept.entries site)
    ∙ ap (λ ps. without_all ps (entries_of setting state site)) are)
    ∙ both_out (map (λ (i : Installed). i.patch) (before_list move.patch parts.world.installed)) move.patch (entries_of setting state site)
    ∙ sym (c.a_replacement_takes_the_older_entries_along.ensures.older setting state move site c.requires.kept.allowed c.requires.moving c.requires.replaces)

pub returns-clause-records : goal.returns-clause-records
returns-clause-records g c =
    let logged = c.unpatch_each.ensures.records in
    let parts = c.args.state.now in
    let catalog = c.args.catalog.now in
    let two = c.at_most_two_patches_replace.ensures (setting_in parts catalog) (state_in parts catalog) c.requires.kept.allowed in
    let count = subst (λ ps. count_by (is_cumulative catalog) ps ≤ 2) (sym c.installed.ensures.value) two in
    let all = few_older (is_cumulative catalog) c.args.moving.now.patch (length parts.log.logged) (hooked_count parts.sites) (length parts.sites.stacks) c.installed.result.now
    c.older_than-older.result.now c.older_than-older.ensures c.installed.ensures.limit count c.requires.records (count_by-le-length is_stacked parts.sites.stacks)
    (subst (λ n. n ≤ 256) c.sites.ensures.value c.if-prove.false) in
    let sites = subst (λ n. n ≤ 256) c.sites-2.ensures.value c.if-prove-2.false in
    let rows = ap (λ (l : RecordList). length l.logged) c.drop_nops.ensures.notes.logged in
    let both = length-append c.unpatch_each.new.log.logged c.drop_nops.ensures.notes.rows in
    let few = c.drop_nops.ensures.notes.few in
    omega (arith, logged, all, sites, rows, both, few)

pub returns-clause-logged : goal.returns-clause-logged
returns-clause-logged g c =
    let rows = rows_in c.args.state.now in
    patch_back c.unpatch_each.new.sites c.drop_nops.new.sites c.unpatch_each.new.log c.drop_nops.new.log _ _ _ c.drop_nops.ensures.notes rows ∙ c.unpatch_each.ensures.logged rows
