use Rattle.std.proofs.Common.{◌≡◌, refl, sym, ap, ◌∙◌, None, reverse, if◌then◌else◌, true, false}
use Rattle.std.specs.Cmp.{nat_eq_equiv}
use Rattle.klp_types.specs.Image.{object_of}
use Rattle.klp_types.specs.Entries.{entries_from}
use Rattle.klp_types.specs.World.{without_patch}
use Rattle.klp_types.specs.Pick.{moves}
use Rattle.klp_types.specs.Setting.{replaces}
use Rattle.klp_model.specs.Completing.{without_older}
use Rattle.klp_model.specs.State.{installed_patches, with_world}
use Rattle.klp_model.specs.Entries.{is_site_loaded, entries_of}
use Rattle.klp_stack.specs.Stack.{entries_at, entries_of_others}
use Rattle.klp_patch.specs.Covered.{is_covered}
use Rattle.klp_manager_state.specs.Rows.{rows_in}
use Rattle.klp_patch_events.proofs.BackLemmas.{patch_back}
use Rattle.klp_manager_state.specs.Managed.{setting_in, state_in}
use Rattle.klp_patch_events.proofs.CompleteTaskLemmas.{own_in}
use Rattle.klp_patch_events.proofs.EntryLemmas.{loaded_in_scope}
use Rattle.klp_patch_events.proofs.CompleteSiteLemmas.{nowhere_else}
use Rattle.klp_patch_events.proofs.completing.remove_leaving_entries.Goals as goal

pub unpatch_sites-requires-clause-own : goal.unpatch_sites-requires-clause-own
unpatch_sites-requires-clause-own g c = λ site covered has.
    own_in c.entries_are_of_their_patches.ensures.own c.args.state.now c.args.catalog.now c.requires.kept.entries c.args.moving.now.patch site has

pub returns-then-not-moving-clause-entries : goal.returns-then-not-moving-clause-entries
returns-then-not-moving-clause-entries g c = λ site.
    let parts = c.args.state.now in
    let setting = setting_in parts c.args.catalog.now in
    let state = state_in parts c.args.catalog.now in
    let move = c.args.moving.now in
    let out : move.target ≡ false = cc in
    let moves_it : moves state.moving move.patch ≡ true = ap (λ m. moves m move.patch) c.requires.moving ∙ nat_eq_equiv.refl move.patch in
    c.unpatch_sites.ensures.entries.entries site
    ∙ nowhere_else (entries_of_others move.patch) refl (is_covered parts.sites None site) (is_site_loaded setting state site) (loaded_in_scope state (object_of parts.sites.image.objects site))
    (entries_at parts.sites.stacks site) (entries_from setting site (reverse (installed_patches state))) (c.requires.kept.entries site)
    ∙ ap (entries_of_others move.patch) (c.requires.kept.entries site)
    ∙ sym (c.a_patch_leaves_the_entries_of_the_others.ensures setting state move.patch site c.requires.kept.allowed moves_it)
    ∙ ap (λ b. entries_of setting (with_world state (if b then without_older (replaces setting move.patch) parts.world move.patch else without_patch parts.world move.patch)) site) (sym out)

pub returns-then-not-moving-clause-logged : goal.returns-then-not-moving-clause-logged
returns-then-not-moving-clause-logged g c =
    patch_back c.args.state.now.sites c.unpatch_sites.new.sites c.args.state.now.log c.unpatch_sites.new.log _ _ _ c.unpatch_sites.ensures.notes (rows_in c.args.state.now)
