use Rattle.std.proofs.Common.{◌≡◌, ◌≤◌, ◌+◌, sym, ap, ◌∙◌, Some, None, arith, subst}
use Rattle.std.specs.FinMap as finite
use Rattle.klp_types.specs.declared.limits.TheConstants.{MAX_VARIABLES}
use Rattle.klp_types.specs.Callbacks.{calls_of, end_of, allocs_of, after_calls}
use Rattle.klp_types.specs.Setting.{Setting}
use Rattle.klp_types.specs.World.{World}
use Rattle.klp_model.specs.Callbacks.{end_calls}
use Rattle.klp_model.specs.Completing.{settled}
use Rattle.klp_model.specs.State.{with_world}
use Rattle.klp_model.specs.Task.{all_in, at_rest}
use Rattle.klp_patch.specs.Calls.{HasRoomFor, records_of}
use Rattle.klp_patch.specs.Loaded.{loaded_in, patches_in}
use Rattle.klp_model.specs.Entries.{entries_of}
use Rattle.klp_stack.specs.Stack.{entries_at}
use Rattle.klp_catalog.specs.Catalog.{Catalog, patches_of}
use Rattle.klp_catalog.specs.Runs.{after_runs}
use Rattle.klp_manager_state.specs.declared.state.ManagerState.{ManagerState}
use Rattle.klp_manager_state.specs.Rows.{rows_in}
use Rattle.klp_patch_events.proofs.BackLemmas.{callbacks_back}
use Rattle.klp_manager_state.specs.Managed.{setting_in, state_in}
use Rattle.klp_manager_state.proofs.StepLemmas.{same_entries}
use Rattle.klp_patch_events.proofs.RoomLemmas.{same_objects}
use Rattle.klp_patch_events.proofs.CompleteListLemmas.{settled_numbers}
use Rattle.klp_patch_events.proofs.completing.complete.Goals as goal

pub run_callbacks-requires : goal.run_callbacks-requires
run_callbacks-requires g c =
    let before = c.args.state.now in
    let catalog = c.args.catalog.now in
    let mid = c.remove_leaving_entries.new.state in
    let move = c.args.moving.now in
    let end = end_calls (setting_in before catalog) (state_in before catalog) (Some move) in
    let calls : calls_of move.patch c.end_of.result (loaded_in catalog mid.modules move.patch) ≡ end =
    ap (λ which. calls_of move.patch which (loaded_in catalog mid.modules move.patch)) c.end_of.ensures
    ∙ ap (λ (p : ManagerState). calls_of move.patch (end_of move.target) (loaded_in catalog p.modules move.patch)) c.remove_leaving_entries.ensures.parts
    ∙ ap (calls_of move.patch (end_of move.target)) (same_objects before catalog move.patch c.requires.kept) in
    let world : mid.world ≡ before.world = ap (λ (p : ManagerState). p.world) c.remove_leaving_entries.ensures.parts in
    let count = ap (λ (w : World). finite.len w.shadow) world in
    let few = c.requires.kept.allowed.room in
    let logged = c.remove_leaving_entries.ensures.records in
    let short = c.requires.calls in
    let room = c.remove_leaving_entries.ensures.log in
    record {
      room = subst (λ cs. HasRoomFor mid.world mid.log cs) (sym calls) (record {
        variables = subst (λ (w : World). finite.len w.shadow + allocs_of end ≤ MAX_VARIABLES) (sym world) c.requires.variables;
        records = omega (arith, count, few, logged, short, room);
      });
    }

pub rest-requires-clause-moves : goal.rest-requires-clause-moves
rest-requires-clause-moves g c = λ none.
    let still : c.remove_leaving_patches.new.state.moving ≡ Some c.args.moving.now =
    ap (λ (p : ManagerState). p.moving) c.remove_leaving_patches.ensures.parts ∙ ap (λ (p : ManagerState). p.moving) c.remove_leaving_entries.ensures.parts ∙ c.requires.moving in
    let no : ⊥ = cc (sym none ∙ still) in
    no

pub remove_leaving_patches-requires-clause-records : goal.remove_leaving_patches-requires-clause-records
remove_leaving_patches-requires-clause-records g c =
    let before = c.args.state.now in
    let catalog = c.args.catalog.now in
    let mid = c.remove_leaving_entries.new.state in
    let move = c.args.moving.now in
    let end = end_calls (setting_in before catalog) (state_in before catalog) (Some move) in
    let calls : calls_of move.patch c.end_of.result (loaded_in catalog mid.modules move.patch) ≡ end =
    ap (λ which. calls_of move.patch which (loaded_in catalog mid.modules move.patch)) c.end_of.ensures
    ∙ ap (λ (p : ManagerState). calls_of move.patch (end_of move.target) (loaded_in catalog p.modules move.patch)) c.remove_leaving_entries.ensures.parts
    ∙ ap (calls_of move.patch (end_of move.target)) (same_objects before catalog move.patch c.requires.kept) in
    let count = ap (λ (p : ManagerState). finite.len p.world.shadow) c.remove_leaving_entries.ensures.parts in
    let few = c.requires.kept.allowed.room in
    let logged = c.remove_leaving_entries.ensures.records in
    let short = c.requires.calls in
    let more = ap records_of calls in
    let ran = c.run_callbacks.ensures.records in
    omega (arith, count, few, logged, short, more, ran)

pub returns-clause-completed : goal.returns-clause-completed
returns-clause-completed g c =
    let before = c.args.state.now in
    let catalog = c.args.catalog.now in
    let now = c.run_callbacks.new.catalog in
    let mid = c.remove_leaving_entries.new.state in
    let move = c.args.moving.now in
    let setting = setting_in before catalog in
    let state = state_in before catalog in
    let after = c.rest.new.state in
    let calls : calls_of move.patch c.end_of.result (loaded_in catalog mid.modules move.patch) ≡ end_calls setting state (Some move) =
    ap (λ which. calls_of move.patch which (loaded_in catalog mid.modules move.patch)) c.end_of.ensures
    ∙ ap (λ (p : ManagerState). calls_of move.patch (end_of move.target) (loaded_in catalog p.modules move.patch)) c.remove_leaving_entries.ensures.parts
    ∙ ap (calls_of move.patch (end_of move.target)) (same_objects before catalog move.patch c.requires.kept) in
    let runs : now ≡ after_runs catalog (end_calls setting state (Some move)) = c.run_callbacks.ensures.catalog ∙ ap (after_runs catalog) calls in
    let world : c.run_callbacks.new.world ≡ after_calls before.world (end_calls setting state (Some move)) =
    c.run_callbacks.ensures.world ∙ ap (after_calls mid.world) calls ∙ ap (λ (p : ManagerState). after_calls p.world (end_calls setting state (Some move))) c.remove_leaving_entries.ensures.parts in
    let same : (record setting { image = mid.sites.image; patches = patches_of now }) ≡ setting =
    ap (λ i. record setting { image = i; patches = patches_of now }) c.remove_leaving_entries.ensures.image
    ∙ ap (λ (k : Catalog). record setting { patches = patches_of k }) runs in
    let left : ManagerState = record before { sites = mid.sites; world = settled setting c.run_callbacks.new.world move; tasks = all_in at_rest before.tasks; moving = None; log = after.log } in
    let is : after ≡ left =
    c.rest.ensures.parts
    ∙ ap (λ (p : ManagerState). record p { tasks = all_in at_rest p.tasks; moving = None; log = after.log }) c.remove_leaving_patches.ensures.parts
    ∙ ap (λ (p : ManagerState). record p { sites = mid.sites; world = settled (record setting { image = mid.sites.image; patches = patches_of now }) c.run_callbacks.new.world move; tasks = all_in at_rest p.tasks; moving = None; log = after.log }) c.remove_leaving_entries.ensures.parts
    ∙ ap (λ (s : Setting). record left { world = settled s c.run_callbacks.new.world move }) same in
    let loaded = c.remove_leaving_entries.ensures.loaded in
    record {
      state = ap (λ (p : ManagerState). state_in p now) is ∙ ap (λ l. record (state_in left now) { loaded = l }) loaded
          ∙ ap (λ w. record state { world = settled setting w move; moving = None; tasks = all_in at_rest before.tasks }) world;
      runs = runs;
      image = ap (λ (p : ManagerState). p.sites.image) is ∙ c.remove_leaving_entries.ensures.image;
      modules = ap (λ (p : ManagerState). p.modules) is;
      entries = λ site. ap (λ (p : ManagerState). entries_at p.sites.stacks site) is ∙ c.remove_leaving_entries.ensures.entries site
          ∙ same_entries setting (with_world state (settled setting before.world move)) (state_in left now) (sym loaded)
          (settled_numbers setting move before.world c.run_callbacks.new.world (sym (c.run_callbacks.ensures.installed ∙ ap (λ (p : ManagerState). patches_in p.world) c.remove_leaving_entries.ensures.parts))) site
          ∙ ap (λ (p : ManagerState). entries_of setting (state_in p now) site) (sym is);
      room = c.rest.ensures.log;
    }

pub returns-clause-logged : goal.returns-clause-logged
returns-clause-logged g c =
    c.rest.ensures.logged ∙ c.remove_leaving_patches.ensures.logged
    ∙ callbacks_back c.args.catalog.now c.run_callbacks.new.catalog c.remove_leaving_entries.new.state.world c.run_callbacks.new.world c.remove_leaving_entries.new.state.log c.run_callbacks.new.log _
    c.run_callbacks.ensures (rows_in c.remove_leaving_entries.new.state)
    ∙ c.remove_leaving_entries.ensures.logged
