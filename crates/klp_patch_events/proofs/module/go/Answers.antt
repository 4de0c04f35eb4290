use Rattle.std.proofs.Common.{◌≡◌, ◌+◌, length, false, refl, sym, ap, ◌∙◌, arith, [], ◌∷◌}
use Rattle.std.specs.Prelude.{◌<◌, slice_set, slice_index_or}
use Rattle.std.specs.FinMap as finite
use borrow.Author.Tests.{ltb-false}
use Rattle.klp_types.specs.declared.limits.TheConstants.{MAX_VARIABLES}
use Rattle.klp_types.specs.Callbacks.{allocs_of, after_calls}
use Rattle.klp_types.specs.Records.{RecordList}
use Rattle.klp_model.specs.declared.event.Event.TheVariants.{Going}
use Rattle.klp_model.specs.declared.event.Reply.TheVariants.{Done}
use Rattle.klp_model.specs.EventCalls.{may_run}
use Rattle.klp_model.specs.ModuleCalls.{parts, going_calls}
use Rattle.klp_model.specs.State.{installed_patches, with_world}
use Rattle.klp_modules.specs.Names.{ModuleTable}
use Rattle.klp_catalog.specs.Runs.{after_runs}
use Rattle.klp_patch.specs.Calls.{records_of}
use Rattle.klp_patch.specs.ModuleParts.{parts_in}
use Rattle.klp_stack.specs.Stack.{entries_at}
use Rattle.klp_sites.specs.Table.{SiteTable}
use Rattle.klp_manager_state.specs.declared.state.ManagerState.{ManagerState}
use Rattle.klp_manager_state.specs.Rows.{Rows, rows_in, before_logged}
use Rattle.klp_types.specs.declared.record.Record.{Record}
use Rattle.klp_sites.specs.Changes.{noting}
use Rattle.klp_sites.specs.Undo as of_sites
use Rattle.klp_sites.proofs.ExactLemmas.{loaded_effective}
use Rattle.klp_manager_state.proofs.RowLemmas.{loaded_back}
use Rattle.klp_patch_events.proofs.BackLemmas.{callbacks_back}
use Rattle.klp_manager_state.specs.Managed.{setting_in, state_in}
use Rattle.klp_manager_state.proofs.StepLemmas.{step_accepted}
use Rattle.klp_patch_events.proofs.ModuleSteps.{may_go, going_few, went}
use Rattle.klp_patch_events.proofs.module.go.Goals as goal

pub unpatch_object-requires-clause-records : goal.unpatch_object-requires-clause-records
unpatch_object-requires-clause-records g c =
    let before = c.args.state.now in
    let catalog = c.args.catalog.now in
    let setting = setting_in before catalog in
    let state = state_in before catalog in
    let same : c.deref.result.now ≡ installed_patches state = c.deref.ensures.0 ∙ c.installed_patches-installed.ensures.value in
    let own : parts_in catalog c.args.object c.deref.result.now ≡ parts setting state c.args.object = ap (parts_in catalog c.args.object) same in
    let few = going_few state.moving (parts setting state c.args.object) in
    let ran = ap (λ ps. records_of (going_calls state.moving ps)) own in
    let variables = ltb-false MAX_VARIABLES (finite.len state.world.shadow + allocs_of (may_run setting state (Going c.args.object))) (may_go setting state c.args.object c.requires.free).room in
    let empty = ap (λ (l : RecordList). length l.logged) c.clear.ensures in
    omega (arith, few, ran, variables, empty, c.run_going.ensures.records, c.requires.records)

pub returns-clause-accepted : goal.returns-clause-accepted
returns-clause-accepted g c =
    let before = c.args.state.now in
    let catalog = c.args.catalog.now in
    let now = c.run_going.new.catalog in
    let setting = setting_in before catalog in
    let state = state_in before catalog in
    let object = c.args.object in
    let after : ManagerState = record before { sites = c.unload.new.self; modules = c.set_loaded.new.self; world = c.run_going.new.world; log = c.note.new.self } in
    let same : c.deref.result.now ≡ installed_patches state = c.deref.ensures.0 ∙ c.installed_patches-installed.ensures.value in
    let own : parts_in catalog object c.deref.result.now ≡ parts setting state object = ap (parts_in catalog object) same in
    let ran = ap (going_calls state.moving) own in
    let left = with_world state (after_calls state.world (going_calls state.moving (parts setting state object))) in
    let table = c.unload.ensures.table in
    let flags = ap (λ (t : SiteTable). t.loaded) table ∙ ap (λ l. slice_set l object false) c.unpatch_object.ensures.loaded in
    let world = c.run_going.ensures.world ∙ ap (after_calls state.world) ran in
    let kept = ap (λ (m : ModuleTable). m.loaded) c.requires.kept.modules_are in
    let within : object < length state.loaded = let fact = (may_go setting state object c.requires.free).within in omega (arith, fact, c.requires.kept.allowed.objects) in
    step_accepted c.steps_keep.ensures before after catalog now (Going object) Done c.requires.kept c.requires.free (record {
      says = refl;
      state = ap (λ w. record state { world = w; loaded = after.sites.loaded }) world ∙ ap (λ l. record left { loaded = l }) flags;
      runs = c.run_going.ensures.catalog ∙ ap (after_runs catalog) ran;
      image = ap (λ (t : SiteTable). t.image) table ∙ c.unpatch_object.ensures.image;
      modules = c.set_loaded.ensures.flag ∙ ap (λ l. record before.modules { loaded = slice_set l object false }) kept ∙ ap (λ l. record before.modules { loaded = l }) (sym flags);
      entries = λ site.
          went setting state (state_in after now) object site before.sites.loaded (entries_at after.sites.stacks site) (entries_at before.sites.stacks site) within flags c.run_going.ensures.installed (c.requires.kept.entries site)
          (ap (λ (t : SiteTable). entries_at t.stacks site) table ∙ c.unpatch_object.ensures.entries site);
      room = ap (λ (l : RecordList). l.room) c.note.ensures ∙ c.unpatch_object.ensures.room;
    })

pub returns-clause-logged : goal.returns-clause-logged
returns-clause-logged g c =
    let rows = rows_in c.args.state.now in
    let may = may_go (setting_in c.args.state.now c.args.catalog.now) (state_in c.args.state.now c.args.catalog.now) c.args.object c.requires.free in
    let within : c.args.object < length c.unpatch_object.new.sites.loaded =
    let fact = may.within in let same = ap length c.unpatch_object.ensures.loaded in omega (arith, fact, same, c.requires.kept.allowed.objects)
    in
    let ran : Rows = record rows { world = c.run_going.new.world } in
    loaded_back c.unpatch_object.new.sites c.unload.new.self c.args.object _ c.unpatch_object.new.log c.note.new.self
    (c.note.ensures ∙ ap (λ (row : Record). noting c.unpatch_object.new.log (row ∷ [])) c.unload.ensures.row)
    (ap (of_sites.put_back c.unload.new.self) (sym c.unload.ensures.row) ∙ c.unload.ensures.undo) refl
    (loaded_effective c.unpatch_object.new.sites c.unload.new.self c.args.object false _ within c.unload.ensures.table (ap (λ l. slice_index_or l c.args.object false) c.unpatch_object.ensures.loaded ∙ may.there)) ran
    ∙ c.unpatch_object.ensures.logged ran
    ∙ callbacks_back c.args.catalog.now c.run_going.new.catalog c.args.state.now.world c.run_going.new.world c.clear.new.self c.run_going.new.log _ c.run_going.ensures rows
    ∙ ap (λ (l : RecordList). before_logged rows l) c.clear.ensures
