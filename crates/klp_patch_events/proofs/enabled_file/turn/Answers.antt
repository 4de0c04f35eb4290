use Rattle.std.proofs.Common.{◌≡◌, ℕ, Bool, true, false, not, ◌&&◌, List, ◌∷◌, Some, None, refl, sym, ap, ◌∙◌, [], map}
use Rattle.std.specs.Prelude.{if◌then◌else◌}
use Rattle.std.proofs.lemmas.Bool.{eq-eqb}
use Rattle.klp_types.specs.declared.callback.Which.TheVariants.{PreUn}
use Rattle.klp_types.specs.Callbacks.{calls_of}
use Rattle.klp_model.specs.declared.event.Event.TheVariants.{SetEnabled}
use Rattle.klp_model.specs.declared.event.Reply.TheVariants.{Reversed}
use Rattle.klp_model.specs.Enabling.{turned_or_started}
use Rattle.klp_model.specs.Callbacks.{loaded_objects}
use Rattle.klp_catalog.specs.Runs.{after_runs}
use Rattle.klp_types.specs.Records.{RecordList}
use Rattle.klp_types.specs.World.{Installed}
use Rattle.klp_manager_state.specs.declared.state.ManagerState.{ManagerState}
use Rattle.klp_manager_state.specs.Rows.{rows_in, before_logged}
use Rattle.klp_manager_state.specs.Managed.{setting_in, state_in}
use Rattle.klp_manager_state.proofs.StepLemmas.{accepted_at_sites}
use Rattle.klp_types.specs.Pick.{moves}
use Rattle.klp_types.specs.Setting.{Setting}
use Rattle.klp_model.specs.EventCalls.{lacks_room}
use Rattle.klp_model.specs.State.{State, is_installed, is_moving}
use Rattle.klp_model.specs.declared.event.Refusal.{Refusal}
use Rattle.klp_model.specs.declared.event.Refusal.TheVariants.{NoPatch, NotFound, SameValue, Busy, Full}
use Rattle.klp_model.specs.Refusals.{has_patch, enabled_value, moves_out, same_bool, refusal}
use Rattle.klp_patch_events.proofs.ModuleSteps.{passed}
use Rattle.klp_patch_events.proofs.enabled_file.turn.Goals as goal

-- a value is set that isn't the file's
other_value : (setting : Setting) (state : State) (patch : ℕ) (value : Bool) → refusal setting state (SetEnabled patch value) ≡ None → same_bool value (enabled_value state patch) ≡ false
other_value setting state patch value free =
    let last : List (Bool × Refusal) = (not value && is_moving state && not (moves state.moving patch), Busy) ∷ (lacks_room setting state (SetEnabled patch value), Full) ∷ [] in
    let same : Bool × Refusal = (same_bool value (enabled_value state patch), SameValue) in
    let found : Bool × Refusal = (not (is_installed state patch), NotFound) in
    let there : Bool × Refusal = (not (has_patch setting patch), NoPatch) in
    (passed same last (passed found (same ∷ last) (passed there (found ∷ same ∷ last) free).1).1).0

-- a patch that moves to a target has that in its file
same_value : (patch : ℕ) (value : Bool) → same_bool value (not (moves_out (Some (record { patch = patch; target = value })) patch)) ≡ true
same_value patch true = rw (eq-eqb patch patch refl) refl
same_value patch false = rw (eq-eqb patch patch refl) refl

pub set_moving-requires-clause-other : goal.set_moving-requires-clause-other
set_moving-requires-clause-other g c = λ same.
    let setting = setting_in c.args.state.now c.args.catalog.now in
    let state = state_in c.args.state.now c.args.catalog.now in
    let another = other_value setting state c.args.patch c.args.value c.requires.free in
    let no : ⊥ = cc (sym (same_value c.args.patch c.args.value) ∙ ap (λ moving. same_bool c.args.value (not (moves_out moving c.args.patch))) (sym same) ∙ another) in
    no

pub returns-then-is_in_transition-clause-accepted : goal.returns-then-is_in_transition-clause-accepted
returns-then-is_in_transition-clause-accepted g c =
    let before = c.args.state.now in
    let catalog = c.args.catalog.now in
    let setting = setting_in before catalog in
    let state = state_in before catalog in
    let after = c.set_moving.new.self in
    let moved = c.set_moving.ensures.parts in
    let starts = turned_or_started setting state c.args.patch c.args.value in
    let moves = sym c.if-is_in_transition.true ∙ c.is_in_transition.ensures in
    accepted_at_sites c.steps_keep.ensures before after catalog catalog (SetEnabled c.args.patch c.args.value) Reversed c.requires.kept c.requires.free (record {
      says = ap (λ b. (starts b).0) moves;
      state = ap (λ (p : ManagerState). state_in p catalog) moved ∙ ap (λ b. (starts b).1) moves;
      runs = sym (c.steps_keep.ensures.none catalog)
          ∙ ap (λ b. after_runs catalog (if b then [] else calls_of c.args.patch PreUn (loaded_objects setting state c.args.patch))) moves;
      sites = ap (λ (p : ManagerState). p.sites) moved;
      modules = ap (λ (p : ManagerState). p.modules) moved;
      installed = ap (λ (p : ManagerState). map (λ (i : Installed). i.patch) p.world.installed) moved;
      room = ap (λ (p : ManagerState). p.log.room) moved ∙ ap (λ (l : RecordList). l.room) c.clear.ensures ∙ c.requires.kept.room;
    })

pub returns-then-is_in_transition-clause-logged : goal.returns-then-is_in_transition-clause-logged
returns-then-is_in_transition-clause-logged g c = c.set_moving.ensures.logged ∙ ap (λ (l : RecordList). before_logged (rows_in c.args.state.now) l) c.clear.ensures
