use Rattle.std.proofs.Common.{◌≡◌, ◌≤◌, refl, sym, ap, ◌∙◌, false, [], length, map, arith, w8, to_z, of_z}
use Rattle.std.specs.Prelude.{◌==◌, if◌then◌else◌}
use Rattle.std.proofs.lemmas.Bool.{eq-eqb}
use Rattle.klp_types.specs.Pick.{moves}
use Rattle.klp_types.specs.declared.callback.Which.TheVariants.{PreUn}
use Rattle.klp_types.specs.Callbacks.{calls_of}
use Rattle.klp_model.specs.declared.event.Event.TheVariants.{SetEnabled}
use Rattle.klp_model.specs.declared.event.Reply.TheVariants.{Started}
use Rattle.klp_model.specs.Enabling.{turned_or_started}
use Rattle.klp_model.specs.Callbacks.{loaded_objects}
use Rattle.klp_catalog.specs.Runs.{after_runs}
use Rattle.klp_types.specs.Records.{RecordList}
use Rattle.klp_types.specs.World.{Installed}
use Rattle.klp_manager_state.specs.declared.state.ManagerState.{ManagerState}
use Rattle.klp_manager_state.specs.Rows.{rows_in, before_logged}
use Rattle.klp_manager_state.proofs.RowLemmas.{switched_back}
use Rattle.klp_patch_events.proofs.BackLemmas.{callbacks_back}
use Rattle.klp_manager_state.specs.Managed.{setting_in, state_in}
use Rattle.klp_manager_state.proofs.StepLemmas.{accepted_at_sites}
use Rattle.klp_patch_events.proofs.RoomLemmas.{same_objects}
use Rattle.klp_model.specs.Task.{all_in}
use Rattle.klp_patch.specs.Calls.{records_of}
use Rattle.klp_types.specs.declared.limits.TheConstants.{MAX_KIND_RECORDS}
use Rattle.klp_patch.specs.Loaded.{loaded_in}
use Rattle.klp_patch_events.proofs.enabled_file.disable.Goals as goal

pub set_all-requires : goal.set_all-requires
set_all-requires g c =
    let before = c.args.state.now in
    let catalog = c.args.catalog.now in
    let state = state_in before catalog in
    let calls = calls_of c.args.patch PreUn (loaded_in catalog before.modules c.args.patch) in
    let same = ap (calls_of c.args.patch PreUn) (same_objects before catalog c.args.patch c.requires.kept) in
    let run = ap (λ b. records_of (if b then [] else calls_of c.args.patch PreUn (loaded_objects (setting_in before catalog) state c.args.patch))) (sym c.requires.rests) in
    let few : records_of calls ≤ MAX_KIND_RECORDS = omega (arith, ap records_of same, run, c.requires.records) in
    let empty = ap (λ (l : RecordList). length l.logged) c.clear.ensures in
    let room = c.run_callbacks.ensures.room ∙ ap (λ (l : RecordList). l.room) c.clear.ensures ∙ c.requires.kept.room in
    let rows = c.records_are_few.ensures 0 before.tasks (all_in (to_z w8 (of_z w8 c.target_state.result)) before.tasks) in
    omega (arith, rows, few, empty, room, c.run_callbacks.ensures.records, c.requires.kept.allowed.room, c.requires.kept.allowed.rows)

pub set_moving-requires-clause-other : goal.set_moving-requires-clause-other
set_moving-requires-clause-other g c = λ same.
    let own : (c.args.patch == c.args.patch) ≡ false = ap (λ moving. moves moving c.args.patch) (sym same) ∙ c.requires.rests in
    let no : ⊥ = cc (sym (eq-eqb c.args.patch c.args.patch refl) ∙ own) in
    no

pub returns-clause-accepted : goal.returns-clause-accepted
returns-clause-accepted g c =
    let before = c.args.state.now in
    let catalog = c.args.catalog.now in
    let now = c.run_callbacks.new.catalog in
    let setting = setting_in before catalog in
    let state = state_in before catalog in
    let after = c.set_moving.new.self in
    let moved = c.set_moving.ensures.parts in
    let same = ap (calls_of c.args.patch PreUn) (same_objects before catalog c.args.patch c.requires.kept) in
    let starts = turned_or_started setting state c.args.patch c.args.value in
    let made : state_in after now ≡ (starts false).1 =
    ap (λ (p : ManagerState). state_in p now) moved ∙ rw (c.run_callbacks.ensures.world, same, c.set_all.ensures.tasks, c.target_state.ensures) refl
    in
    accepted_at_sites c.steps_keep.ensures before after catalog now (SetEnabled c.args.patch c.args.value) Started c.requires.kept c.requires.free (record {
      says = ap (λ b. (starts b).0) (sym c.requires.rests);
      state = made ∙ ap (λ b. (starts b).1) (sym c.requires.rests);
      runs = c.run_callbacks.ensures.catalog
          ∙ ap (after_runs catalog) (same ∙ ap (λ b. if b then [] else calls_of c.args.patch PreUn (loaded_objects setting state c.args.patch)) (sym c.requires.rests));
      sites = ap (λ (p : ManagerState). p.sites) moved;
      modules = ap (λ (p : ManagerState). p.modules) moved;
      installed = ap (λ (p : ManagerState). map (λ (i : Installed). i.patch) p.world.installed) moved ∙ c.run_callbacks.ensures.installed;
      room = ap (λ (p : ManagerState). p.log.room) moved ∙ rw c.set_all.ensures.records (c.run_callbacks.ensures.room ∙ rw c.clear.ensures c.requires.kept.room);
    })

pub returns-clause-logged : goal.returns-clause-logged
returns-clause-logged g c =
    let rows = rows_in c.args.state.now in
    c.set_moving.ensures.logged
    ∙ switched_back c.args.state.now.tasks c.set_all.new.self _ c.run_callbacks.new.log c.set_all.new.log c.set_all.ensures.tasks c.set_all.ensures.records c.set_all.ensures.undo
    (record rows { world = c.run_callbacks.new.world })
    ∙ callbacks_back c.args.catalog.now c.run_callbacks.new.catalog c.args.state.now.world c.run_callbacks.new.world c.clear.new.self c.run_callbacks.new.log _ c.run_callbacks.ensures rows
    ∙ ap (λ (l : RecordList). before_logged rows l) c.clear.ensures
