use Rattle.std.proofs.Common.{rules, w32, to_z, of_z, ◌≡◌, ◌+◌, length, reverse, true, Some, refl, sym, ap, ◌∙◌, arith, length-append, [], ◌∷◌}
use Rattle.std.specs.Prelude.{◌<◌, slice_set, option_map, if◌then◌else◌}
use Rattle.std.specs.FinMap as finite
use Rattle.std.specs.List.{find}
use borrow.Author.Tests.{ltb-false}
use Rattle.klp_types.specs.declared.limits.TheConstants.{MAX_VARIABLES}
use Rattle.klp_types.specs.declared.callback.Which.TheVariants.{Pre}
use Rattle.klp_types.specs.Callbacks.{allocs_of, after_calls, script_for}
use Rattle.klp_types.specs.Entries.{entries_from}
use Rattle.klp_types.specs.Records.{RecordList}
use Rattle.klp_model.specs.Callbacks.{status_of}
use Rattle.klp_model.specs.declared.event.Event.TheVariants.{Coming}
use Rattle.klp_model.specs.declared.event.Reply.{Reply}
use Rattle.klp_model.specs.declared.event.Reply.TheVariants.{Done}
use Rattle.klp_model.specs.EventCalls.{may_run}
use Rattle.klp_model.specs.ModuleCalls.{Part, part_refuses, parts, coming_calls}
use Rattle.klp_model.specs.ModuleStep.{come_or_refused}
use Rattle.klp_model.specs.State.{State, installed_patches, with_world}
use Rattle.klp_modules.specs.Names.{ModuleTable}
use Rattle.klp_catalog.specs.Catalog.{Catalog, patches_of}
use Rattle.klp_catalog.specs.Runs.{after_runs}
use Rattle.klp_patch.specs.Calls.{records_of}
use Rattle.klp_patch.specs.ModuleParts.{parts_in}
use Rattle.klp_stack.specs.Stack.{entries_at}
use Rattle.klp_sites.specs.Table.{SiteTable}
use Rattle.klp_patch.specs.Covered.{is_covered}
use Rattle.klp_manager_state.specs.declared.state.ManagerState.{ManagerState}
use Rattle.klp_manager_state.specs.Rows.{Rows, rows_in, before_logged}
use Rattle.klp_types.specs.declared.record.Record.{Record}
use Rattle.klp_sites.specs.Changes.{noting}
use Rattle.klp_sites.specs.Undo as of_sites
use Rattle.klp_sites.proofs.ExactLemmas.{loaded_effective}
use Rattle.klp_manager_state.proofs.RowLemmas.{loaded_back}
use Rattle.klp_patch_events.proofs.BackLemmas.{callbacks_back}
use Rattle.klp_manager_state.specs.Managed.{setting_in, state_in}
use Rattle.klp_manager_state.proofs.StepLemmas.{step_accepted, accepted_at_sites}
use Rattle.klp_patch_events.proofs.ModuleLemmas.{setting_with}
use Rattle.klp_patch_events.proofs.ModuleSteps.{may_come, none_found, refused_by, effective_as, coming_few, came}
use Rattle.klp_patch_events.proofs.FitLemmas.{come_fits}
use Rattle.klp_patch_events.proofs.module.come.Goals as goal

pub note-requires : goal.note-requires
note-requires g c =
    let before = c.args.state.now in
    let catalog = c.args.catalog.now in
    let setting = setting_in before catalog in
    let state = state_in before catalog in
    let same : c.deref.result.now ≡ installed_patches state = c.deref.ensures.0 ∙ c.installed_patches-installed.ensures.value in
    let own : parts_in catalog c.args.object c.deref.result.now ≡ parts setting state c.args.object = ap (parts_in catalog c.args.object) same in
    let none = sym (ap (find part_refuses) own) ∙ none_found (λ (p : Part). (p.0, status_of (script_for Pre p.1.1.callbacks))) (find part_refuses (parts_in catalog c.args.object c.deref.result.now)) c.in-None.ensures.refused in
    let few = coming_few state.moving (parts setting state c.args.object) none in
    let ran = ap (λ ps. records_of (coming_calls state.moving ps)) own in
    let variables = ltb-false MAX_VARIABLES (finite.len state.world.shadow + allocs_of (may_run setting state (Coming c.args.object))) (may_come setting state c.args.object c.requires.free).room in
    let empty = ap (λ (l : RecordList). length l.logged) c.clear.ensures in
    let room = c.in-None.ensures.ran.room ∙ ap (λ (l : RecordList). l.room) c.clear.ensures ∙ c.requires.kept.room in
    omega (arith, few, ran, variables, empty, room, c.in-None.ensures.ran.records, c.requires.records)

pub patch_object-requires-clause-records : goal.patch_object-requires-clause-records
patch_object-requires-clause-records g c =
    let before = c.args.state.now in
    let catalog = c.args.catalog.now in
    let setting = setting_in before catalog in
    let state = state_in before catalog in
    let same : c.deref.result.now ≡ installed_patches state = c.deref.ensures.0 ∙ c.installed_patches-installed.ensures.value in
    let own : parts_in catalog c.args.object c.deref.result.now ≡ parts setting state c.args.object = ap (parts_in catalog c.args.object) same in
    let none = sym (ap (find part_refuses) own) ∙ none_found (λ (p : Part). (p.0, status_of (script_for Pre p.1.1.callbacks))) (find part_refuses (parts_in catalog c.args.object c.deref.result.now)) c.in-None.ensures.refused in
    let few = coming_few state.moving (parts setting state c.args.object) none in
    let ran = ap (λ ps. records_of (coming_calls state.moving ps)) own in
    let variables = ltb-false MAX_VARIABLES (finite.len state.world.shadow + allocs_of (may_run setting state (Coming c.args.object))) (may_come setting state c.args.object c.requires.free).room in
    let empty = ap (λ (l : RecordList). length l.logged) c.clear.ensures in
    let one = ap (λ (l : RecordList). length l.logged) c.note.ensures ∙ length-append c.run_coming.new.log.logged _ in
    omega (arith, few, ran, variables, empty, one, c.in-None.ensures.ran.records, c.requires.records)

pub patch_object-requires-clause-fit : goal.patch_object-requires-clause-fit
patch_object-requires-clause-fit g c =
    let before = c.args.state.now in
    let catalog = c.args.catalog.now in
    come_fits before catalog c.requires.kept c.args.object _ c.installed_patches-installed.ensures.fit c.load.new.self c.load.ensures.table c.run_coming.new.catalog (ap patches_of c.in-None.ensures.ran.catalog)
    c.deref-in-None.result.now (c.deref-in-None.ensures.0 ∙ c.installed_patches-installed.ensures.value)

pub returns-in-Some-clause-accepted : goal.returns-in-Some-clause-accepted
returns-in-Some-clause-accepted g c =
    let before = c.args.state.now in
    let catalog = c.args.catalog.now in
    let now = c.run_coming.new.catalog in
    let state = state_in before catalog in
    let after : ManagerState = record before { world = c.run_coming.new.world; log = c.run_coming.new.log } in
    let stored : to_z w32 (of_z w32 c.in-Some.status) ≡ c.in-Some.status = search rules in
    let same : c.deref.result.now ≡ installed_patches state = c.deref.ensures.0 ∙ c.installed_patches-installed.ensures.value in
    let own : parts_in catalog c.args.object c.deref.result.now ≡ parts (setting_in before catalog) state c.args.object = ap (parts_in catalog c.args.object) same in
    let ran = ap (coming_calls state.moving) own in
    let left = with_world state (after_calls state.world (coming_calls state.moving (parts (setting_in before catalog) state c.args.object))) in
    let refused = refused_by left c.args.object (c.in-Some.patch, c.in-Some.status) (find part_refuses (parts (setting_in before catalog) state c.args.object))
    (c.in-Some.ensures'.refused ∙ ap (λ ps. option_map (λ (p : Part). (p.0, status_of (script_for Pre p.1.1.callbacks))) (find part_refuses ps)) own) in
    let effective = effective_as c.args.object c.in-Some.patch c.in-Some.status _ (c.in-Some.ensures.refused ∙ sym c.in-Some.ensures'.refused) stored in
    accepted_at_sites c.steps_keep.ensures before after catalog now (Coming c.args.object) _ c.requires.kept c.requires.free (record {
      says = effective ∙ sym (ap (λ (r : Reply × State). r.0) refused);
      state = ap (with_world state) (c.run_coming.ensures.ran.world ∙ ap (after_calls state.world) ran) ∙ sym (ap (λ (r : Reply × State). r.1) refused);
      runs = c.run_coming.ensures.ran.catalog ∙ ap (after_runs catalog) ran;
      sites = refl;
      modules = refl;
      installed = c.run_coming.ensures.ran.installed;
      room = c.run_coming.ensures.ran.room ∙ ap (λ (l : RecordList). l.room) c.clear.ensures ∙ c.requires.kept.room;
    })

pub returns-in-None-clause-accepted : goal.returns-in-None-clause-accepted
returns-in-None-clause-accepted g c =
    let before = c.args.state.now in
    let catalog = c.args.catalog.now in
    let now = c.run_coming.new.catalog in
    let setting = setting_in before catalog in
    let state = state_in before catalog in
    let object = c.args.object in
    let after : ManagerState = record before { sites = c.patch_object.new.sites; modules = c.set_loaded.new.self; world = c.run_coming.new.world; log = c.patch_object.new.log } in
    let same : c.deref.result.now ≡ installed_patches state = c.deref.ensures.0 ∙ c.installed_patches-installed.ensures.value in
    let again : c.deref-in-None.result.now ≡ installed_patches state = c.deref-in-None.ensures.0 ∙ c.installed_patches-installed.ensures.value in
    let own : parts_in catalog object c.deref.result.now ≡ parts setting state object = ap (parts_in catalog object) same in
    let none = sym (ap (find part_refuses) own) ∙ none_found (λ (p : Part). (p.0, status_of (script_for Pre p.1.1.callbacks))) (find part_refuses (parts_in catalog object c.deref.result.now)) c.in-None.ensures.refused in
    let ran = ap (coming_calls state.moving) own in
    let left = with_world state (after_calls state.world (coming_calls state.moving (parts setting state object))) in
    let come = ap (come_or_refused left object) none in
    let table = c.load.ensures.table in
    let flags = c.patch_object.ensures.loaded ∙ ap (λ (t : SiteTable). t.loaded) table in
    let world = c.run_coming.ensures.ran.world ∙ ap (after_calls state.world) ran in
    let kept = ap (λ (m : ModuleTable). m.loaded) c.requires.kept.modules_are in
    let image = c.patch_object.ensures.image ∙ ap (λ (t : SiteTable). t.image) table in
    let loaded : SiteTable = record before.sites { loaded = slice_set before.sites.loaded object true } in
    let within : object < length state.loaded = let fact = (may_come setting state object c.requires.free).within in omega (arith, fact, c.requires.kept.allowed.objects) in
    step_accepted c.steps_keep.ensures before after catalog now (Coming object) Done c.requires.kept c.requires.free (record {
      says = sym (ap (λ (r : Reply × State). r.0) come);
      state = ap (λ w. record state { world = w; loaded = after.sites.loaded }) world ∙ ap (λ l. record left { loaded = l }) flags ∙ sym (ap (λ (r : Reply × State). r.1) come);
      runs = c.run_coming.ensures.ran.catalog ∙ ap (after_runs catalog) ran;
      image = image;
      modules = c.set_loaded.ensures.flag ∙ ap (λ l. record before.modules { loaded = slice_set l object true }) kept ∙ ap (λ l. record before.modules { loaded = l }) (sym flags);
      entries = λ site.
          came setting state (state_in after now) object site loaded.loaded (entries_at after.sites.stacks site) (entries_at before.sites.stacks site) within flags c.run_coming.ensures.ran.installed (c.requires.kept.entries site)
          (c.patch_object.ensures.entries site
          ∙ ap (λ (t : SiteTable). if is_covered t (Some object) site then entries_from (setting_with t.image now) site (reverse c.deref-in-None.result.now) else entries_at t.stacks site) table
          ∙ ap (λ (k : Catalog). if is_covered loaded (Some object) site then entries_from (setting_with before.sites.image k) site (reverse c.deref-in-None.result.now) else entries_at before.sites.stacks site) c.run_coming.ensures.ran.catalog
          ∙ ap (λ ps. if is_covered loaded (Some object) site then entries_from setting site (reverse ps) else entries_at before.sites.stacks site) again);
      room = c.patch_object.ensures.room;
    })

pub returns-in-Some-clause-logged : goal.returns-in-Some-clause-logged
returns-in-Some-clause-logged g c =
    let rows = rows_in c.args.state.now in
    callbacks_back c.args.catalog.now c.run_coming.new.catalog c.args.state.now.world c.run_coming.new.world c.clear.new.self c.run_coming.new.log _ c.run_coming.ensures.ran rows
    ∙ ap (λ (l : RecordList). before_logged rows l) c.clear.ensures

pub returns-in-None-clause-logged : goal.returns-in-None-clause-logged
returns-in-None-clause-logged g c =
    let rows = rows_in c.args.state.now in
    let may = may_come (setting_in c.args.state.now c.args.catalog.now) (state_in c.args.state.now c.args.catalog.now) c.args.object c.requires.free in
    let within : c.args.object < length c.args.state.now.sites.loaded = let fact = may.within in omega (arith, fact, c.requires.kept.allowed.objects) in
    let ran : Rows = record rows { world = c.run_coming.new.world } in
    c.patch_object.ensures.logged ran
    ∙ loaded_back c.args.state.now.sites c.load.new.self c.args.object _ c.run_coming.new.log c.note.new.self
    (c.note.ensures ∙ ap (λ (row : Record). noting c.run_coming.new.log (row ∷ [])) c.load.ensures.row)
    (ap (of_sites.put_back c.load.new.self) (sym c.load.ensures.row) ∙ c.load.ensures.undo) refl
    (loaded_effective c.args.state.now.sites c.load.new.self c.args.object true _ within c.load.ensures.table may.absent) ran
    ∙ callbacks_back c.args.catalog.now c.run_coming.new.catalog c.args.state.now.world c.run_coming.new.world c.clear.new.self c.run_coming.new.log _ c.run_coming.ensures.ran rows
    ∙ ap (λ (l : RecordList). before_logged rows l) c.clear.ensures
