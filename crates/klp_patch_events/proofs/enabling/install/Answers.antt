use Rattle.std.proofs.Common.{◌≡◌, ℕ, ◌≤◌, true, false, List, length, None, sym, ap, subst, ◌∙◌, arith}
use Rattle.std.specs.Prelude.{◌++◌}
use Rattle.std.specs.FinMap as finite
use Rattle.std.proofs.lemmas.List.{length-map}
use Rattle.klp_types.specs.declared.callback.Which.TheVariants.{Pre, PostUn}
use Rattle.klp_types.specs.Setting.{PatchObject}
use Rattle.klp_types.specs.World.{World, with_patch, without_patch}
use Rattle.klp_types.specs.Records.{RecordList}
use Rattle.klp_types.specs.Callbacks.{calls_of, enable_calls, after_calls}
use Rattle.klp_model.specs.declared.event.Event.TheVariants.{Enable}
use Rattle.klp_model.specs.Enabling.{move_to}
use Rattle.klp_model.specs.Task.{all_in, at_target}
use Rattle.klp_patch.specs.Changes.{AreMade, with_entry}
use Rattle.klp_manager_state.specs.Invariant.{Invariant}
use Rattle.klp_manager_state.specs.Events.{AcceptsEvent}
use Rattle.klp_model.specs.Callbacks.{loaded_objects}
use Rattle.klp_catalog.specs.Catalog.{Catalog, setting_patch}
use Rattle.klp_catalog.specs.States.{state_ids}
use Rattle.klp_catalog.specs.Runs.{after_runs}
use Rattle.klp_stack.specs.Stack.{entries_at, has_entry}
use Rattle.klp_patch.specs.Calls.{HasRoomFor, records_of}
use Rattle.klp_patch.specs.Loaded.{loaded_in}
use Rattle.klp_patch.specs.Covered.{is_covered}
use Rattle.klp_patch.specs.Room.{HasRoom}
use Rattle.klp_types.specs.declared.limits.TheConstants.{MAX_SITES}
use Rattle.klp_manager_state.specs.declared.state.ManagerState.{ManagerState}
use Rattle.klp_manager_state.specs.Rows.{rows_in}
use Rattle.klp_patch_events.proofs.BackLemmas.{callbacks_back}
use Rattle.klp_manager_state.specs.Managed.{setting_in, state_in}
use Rattle.klp_patch_events.proofs.RoomLemmas.{same_objects, room_with}
use Rattle.klp_manager_state.proofs.InstalledLemmas.{fewer, numbers_of, any-numbers}
use Rattle.klp_patch_events.proofs.EnableLemmas.{enablable, nothing_moves, started, failed, none_refused, one_refused, same_reply, world_then}
use Rattle.klp_patch_events.proofs.EntryLemmas.{no_entry_at}
use Rattle.klp_manager_state.proofs.InstalledLemmas.{numbers-with}
use Rattle.klp_patch_events.proofs.FitLemmas.{enable_fits}
use Rattle.klp_patch_events.proofs.enabling.install.Goals as goal

pub put_last-requires-clause-fresh : goal.put_last-requires-clause-fresh
put_last-requires-clause-fresh g c =
    (enablable (setting_in c.args.state.now c.args.catalog.now) (state_in c.args.state.now c.args.catalog.now) c.args.patch c.events_are_accepted_where_no_case_holds.ensures.none c.requires.free).apart

pub put_last-requires-clause-room : goal.put_last-requires-clause-room
put_last-requires-clause-room g c =
    let parts = c.args.state.now in
    let catalog = c.args.catalog.now in
    let setting = setting_in parts catalog in
    let facts = enablable setting (state_in parts catalog) c.args.patch c.events_are_accepted_where_no_case_holds.ensures.none c.requires.free in
    let few = fewer setting (numbers_of parts.world) c.args.patch c.requires.kept.allowed.distinct c.requires.kept.allowed.known
    (any-numbers c.args.patch parts.world.installed ∙ facts.apart) facts.there
    in
    let listed = length-map parts.world.installed (λ i. i.patch) in
    let many = length-map catalog.patches (setting_patch catalog.names) in
    omega (arith, few, listed, many, c.patches.ensures.count, c.patches.ensures.limit)

pub run_pre_patch-requires : goal.run_pre_patch-requires
run_pre_patch-requires g c =
    let parts = c.args.state.now in
    let catalog = c.args.catalog.now in
    let facts = enablable (setting_in parts catalog) (state_in parts catalog) c.args.patch c.events_are_accepted_where_no_case_holds.ensures.none c.requires.free in
    let may = λ (os : List (ℕ × PatchObject)). calls_of c.args.patch Pre os ++ calls_of c.args.patch PostUn os in
    let same = same_objects parts catalog c.args.patch c.requires.kept in
    let shadow = ap (λ (p : ManagerState). finite.len p.world.shadow) c.put_last.ensures.parts in
    subst (λ (p : ManagerState). HasRoomFor c.put_last.new.state.world c.put_last.new.state.log (may (loaded_in catalog p.modules c.args.patch))) (sym c.put_last.ensures.parts)
    (subst (λ os. HasRoomFor c.put_last.new.state.world c.put_last.new.state.log (may os)) (sym same)
    (room_with c.put_last.new.state.world c.put_last.new.state.log (may (loaded_objects (setting_in parts catalog) (state_in parts catalog) c.args.patch))
    (finite.len parts.world.shadow) shadow facts.room c.requires.records c.put_last.ensures.records c.put_last.ensures.log))

pub start-requires-clause-fresh : goal.start-requires-clause-fresh
start-requires-clause-fresh g c = λ site.
    let parts = c.args.state.now in
    let catalog = c.args.catalog.now in
    let facts = enablable (setting_in parts catalog) (state_in parts catalog) c.args.patch c.events_are_accepted_where_no_case_holds.ensures.none c.requires.free in
    ap (λ (p : ManagerState). has_entry c.args.patch (entries_at p.sites.stacks site)) c.put_last.ensures.parts
    ∙ ap (has_entry c.args.patch) (c.requires.kept.entries site)
    ∙ no_entry_at c.entries_are_of_their_patches.ensures.installed (setting_in parts catalog) (state_in parts catalog) c.args.patch
    (any-numbers c.args.patch parts.world.installed ∙ facts.apart) site

pub start-requires-clause-rests : goal.start-requires-clause-rests
start-requires-clause-rests g c =
    let parts = c.args.state.now in
    let facts = enablable (setting_in parts c.args.catalog.now) (state_in parts c.args.catalog.now) c.args.patch c.events_are_accepted_where_no_case_holds.ensures.none c.requires.free in
    ap (λ (p : ManagerState). p.moving) c.put_last.ensures.parts ∙ nothing_moves parts.moving facts.still

pub start-requires-clause-fit : goal.start-requires-clause-fit
start-requires-clause-fit g c =
    let parts = c.args.state.now in
    let catalog = c.args.catalog.now in
    let setting = setting_in parts catalog in
    let facts = enablable setting (state_in parts catalog) c.args.patch c.events_are_accepted_where_no_case_holds.ensures.none c.requires.free in
    let few = fewer setting (numbers_of parts.world) c.args.patch c.requires.kept.allowed.distinct c.requires.kept.allowed.known
    (any-numbers c.args.patch parts.world.installed ∙ facts.apart) facts.there
    in
    let many = length-map catalog.patches (setting_patch catalog.names) in
    let sites : length parts.sites.stacks ≤ MAX_SITES = omega (arith, c.sites.ensures.value, c.sites.ensures.image, c.requires.kept.limits.few_sites) in
    let fits = enable_fits parts catalog c.requires.kept c.patches.ensures.limits sites c.the_newest_entry_is_on_top.ensures c.args.patch facts.still
    (omega (arith, few, many, c.patches.ensures.count, c.patches.ensures.limit))
    in
    subst (λ (p : ManagerState). HasRoom p.sites (is_covered p.sites None) (with_entry c.run_pre_patch.new.catalog c.args.patch)) (sym c.put_last.ensures.parts)
    (subst (λ (k : Catalog). HasRoom parts.sites (is_covered parts.sites None) (with_entry k c.args.patch)) (sym c.run_pre_patch.ensures.ran.catalog) fits)

pub start-requires-clause-records : goal.start-requires-clause-records
start-requires-clause-records g c =
    let parts = c.args.state.now in
    let catalog = c.args.catalog.now in
    let modules = ap (λ (p : ManagerState). records_of (enable_calls c.args.patch (loaded_in catalog p.modules c.args.patch))) c.put_last.ensures.parts in
    let same = ap (λ os. records_of (enable_calls c.args.patch os)) (same_objects parts catalog c.args.patch c.requires.kept) in
    let few = c.runs_log_no_more_than_may_run.ensures.enabling c.args.patch (loaded_objects (setting_in parts catalog) (state_in parts catalog) c.args.patch) in
    let shadow = ap (λ (p : ManagerState). finite.len p.world.shadow) c.put_last.ensures.parts in
    omega (arith, c.run_pre_patch.ensures.ran.records, modules, same, few, shadow, c.requires.records, c.put_last.ensures.records, c.requires.kept.allowed.room)

pub take_out-requires : goal.take_out-requires
take_out-requires g c =
    let parts = c.args.state.now in
    let catalog = c.args.catalog.now in
    let modules = ap (λ (p : ManagerState). records_of (enable_calls c.args.patch (loaded_in catalog p.modules c.args.patch))) c.put_last.ensures.parts in
    let same = ap (λ os. records_of (enable_calls c.args.patch os)) (same_objects parts catalog c.args.patch c.requires.kept) in
    let few = c.runs_log_no_more_than_may_run.ensures.enabling c.args.patch (loaded_objects (setting_in parts catalog) (state_in parts catalog) c.args.patch) in
    let shadow = ap (λ (p : ManagerState). finite.len p.world.shadow) c.put_last.ensures.parts in
    omega (
      arith,
      c.run_pre_patch.ensures.ran.records,
      modules,
      same,
      few,
      shadow,
      c.requires.records,
      c.put_last.ensures.records,
      c.requires.kept.allowed.room,
      c.run_pre_patch.ensures.ran.room,
      c.put_last.ensures.log,
    )

-- the loaded objects, the world and the patches once the patch is put last
same_objects_then : (parts put : ManagerState) (catalog : Catalog) (patch : ℕ) (world : World) (log : RecordList) → Invariant parts catalog
    → put ≡ record parts { world = world; log = log } → loaded_in catalog put.modules patch ≡ loaded_objects (setting_in parts catalog) (state_in parts catalog) patch
same_objects_then parts put catalog patch world log holds is =
    ap (λ (p : ManagerState). loaded_in catalog p.modules patch) is ∙ same_objects parts catalog patch holds

pub returns-in-None-clause-accepted : goal.returns-in-None-clause-accepted
returns-in-None-clause-accepted g c =
    let parts = c.args.state.now in
    let put = c.put_last.new.state in
    let catalog = c.args.catalog.now in
    let patch = c.args.patch in
    let ran = c.run_pre_patch.ensures.ran in
    let world = c.run_pre_patch.new.world in
    let put_world = ap (λ (p : ManagerState). p.world) c.put_last.ensures.parts in
    let objects = same_objects_then parts put catalog patch _ _ c.requires.kept c.put_last.ensures.parts in
    let made : world ≡ world_then parts catalog patch =
    ran.world ∙ ap (λ w. after_calls w (enable_calls patch (loaded_in catalog put.modules patch))) put_world
    ∙ ap (λ os. after_calls (with_patch parts.world patch (state_ids catalog patch)) (enable_calls patch os)) objects
    in
    let is : c.start.new.state ≡ record parts {
      sites = c.start.new.state.sites;
      world = world;
      tasks = all_in (at_target false) parts.tasks;
      moving = move_to patch true;
      log = c.start.new.state.log;
    } =
    c.start.ensures.parts
    ∙ ap (λ (p : ManagerState). record p { sites = c.start.new.state.sites; world = world; tasks = all_in (at_target false) p.tasks; moving = move_to patch true; log = c.start.new.state.log })
    c.put_last.ensures.parts
    in
    let entries = subst (λ (p : ManagerState). AreMade p.sites c.start.new.state.sites (is_covered p.sites None) (with_entry catalog patch)) c.put_last.ensures.parts
    (subst (λ (k : Catalog). AreMade put.sites c.start.new.state.sites (is_covered put.sites None) (with_entry k patch)) ran.catalog c.start.ensures.entries)
    in
    started c.steps_keep.ensures c.the_newest_entry_is_on_top.ensures parts c.start.new.state catalog c.run_pre_patch.new.catalog patch c.requires.kept c.requires.free
    (none_refused (loaded_in catalog put.modules patch) _ c.in-None.ensures.refused objects)
    (ran.catalog ∙ ap (λ os. after_runs catalog (enable_calls patch os)) objects)
    world made (ran.installed ∙ ap numbers_of put_world ∙ numbers-with parts.world patch (state_ids catalog patch)) is entries c.start.ensures.log

pub returns-in-Some-clause-accepted : goal.returns-in-Some-clause-accepted
returns-in-Some-clause-accepted g c =
    let parts = c.args.state.now in
    let put = c.put_last.new.state in
    let catalog = c.args.catalog.now in
    let patch = c.args.patch in
    let ran = c.run_pre_patch.ensures.ran in
    let world = c.run_pre_patch.new.world in
    let put_world = ap (λ (p : ManagerState). p.world) c.put_last.ensures.parts in
    let objects = same_objects_then parts put catalog patch _ _ c.requires.kept c.put_last.ensures.parts in
    let made : world ≡ world_then parts catalog patch =
    ran.world ∙ ap (λ w. after_calls w (enable_calls patch (loaded_in catalog put.modules patch))) put_world
    ∙ ap (λ os. after_calls (with_patch parts.world patch (state_ids catalog patch)) (enable_calls patch os)) objects
    in
    let facts = enablable (setting_in parts catalog) (state_in parts catalog) patch c.events_are_accepted_where_no_case_holds.ensures.none c.requires.free in
    let refused = one_refused (loaded_in catalog put.modules patch) _ c.in-Some.refused.0 c.in-Some.refused.1 c.in-Some.ensures.refused objects in
    let is : c.take_out.new.state ≡ record parts { world = without_patch world patch; log = c.take_out.new.state.log } =
    c.take_out.ensures.parts ∙ ap (λ (p : ManagerState). record p { world = without_patch world patch; log = c.take_out.new.state.log }) c.put_last.ensures.parts
    in
    subst (λ r. AcceptsEvent parts c.take_out.new.state catalog c.run_pre_patch.new.catalog (Enable patch) r)
    (same_reply patch _ _ _ _ refused.named refused.says ∙ sym c.pre_failed.ensures)
    (failed c.steps_keep.ensures parts c.take_out.new.state catalog c.run_pre_patch.new.catalog patch refused.refusing c.requires.kept c.requires.free refused.found
    (ran.catalog ∙ ap (λ os. after_runs catalog (enable_calls patch os)) objects)
    world made (ran.installed ∙ ap numbers_of put_world ∙ numbers-with parts.world patch (state_ids catalog patch))
    (any-numbers patch parts.world.installed ∙ facts.apart) is (c.take_out.ensures.log ∙ ran.room ∙ c.put_last.ensures.log))

pub returns-in-None-clause-logged : goal.returns-in-None-clause-logged
returns-in-None-clause-logged g c =
    c.start.ensures.logged
    ∙ callbacks_back c.args.catalog.now c.run_pre_patch.new.catalog c.put_last.new.state.world c.run_pre_patch.new.world c.put_last.new.state.log c.run_pre_patch.new.log _ c.run_pre_patch.ensures.ran
    (rows_in c.put_last.new.state)
    ∙ c.put_last.ensures.logged

pub returns-in-Some-clause-logged : goal.returns-in-Some-clause-logged
returns-in-Some-clause-logged g c =
    c.take_out.ensures.logged
    ∙ callbacks_back c.args.catalog.now c.run_pre_patch.new.catalog c.put_last.new.state.world c.run_pre_patch.new.world c.put_last.new.state.log c.run_pre_patch.new.log _ c.run_pre_patch.ensures.ran
    (rows_in c.put_last.new.state)
    ∙ c.put_last.ensures.logged
