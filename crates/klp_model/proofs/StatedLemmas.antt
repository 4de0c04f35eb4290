-- Events change the values of system states, and not which states an installed patch has.
use Rattle.std.proofs.Common.{◌≡◌, ℕ, zero, suc, Bool, true, false, ◌&&◌, ◌||◌, cond, List, [], ◌∷◌, ◌++◌, map, Option, Some, None, is_some, refl, sym, ap, subst, ◌∙◌}
use Rattle.std.specs.Prelude.{◌==◌, if◌then◌else◌}
use Rattle.std.specs.List.{list_any, find}
use Rattle.std.proofs.lemmas.Bool.{eqb-true}
use Rattle.klp_types.specs.declared.shadow.ShadowKey.{ShadowKey}
use Rattle.klp_types.specs.declared.edit.Edit.{Edit}
use Rattle.klp_types.specs.declared.edit.Edit.TheVariants.{Alloc, Free, FreeAll, SetData, TakePrev}
use Rattle.klp_types.specs.declared.version.Transition.{Transition}
use Rattle.klp_types.specs.Setting.{Setting, PatchObject, replaces, state_ids}
use Rattle.klp_types.specs.Script.{allocated, value_taken, edited, edited_by, edits_made, effect}
use Rattle.klp_types.specs.Callbacks.{Call, calls_of, refuses, enable_calls, after_calls}
use Rattle.klp_types.specs.World.{Installed, World, ShadowValue, variable, previous_value, states_of, value_among, state_value, set_among, change_states, taken_out, with_patch, without_patch}
use Rattle.klp_types.specs.Pick.{moves}
use Rattle.klp_types.specs.declared.callback.Which.TheVariants.{PreUn}
use Rattle.klp_types.specs.declared.task.Task.{Task}
use Rattle.klp_model.specs.declared.event.Event.{Event}
use Rattle.klp_model.specs.declared.event.Event.TheVariants.{Enable, SetEnabled, Force, Poll, Coming, Going, NewTask, Fork, EndTask, EnterKernel, ExitToUser, Sleep, Wake, ShadowAlloc, ShadowGetOrAlloc, ShadowFree, ShadowFreeAll}
use Rattle.klp_model.specs.Task.{task_at}
use Rattle.klp_model.specs.State.{State, is_installed, is_among}
use Rattle.klp_model.specs.Refusals.{accepts}
use Rattle.klp_model.specs.Blocked.{tried, pending}
use Rattle.klp_model.specs.Callbacks.{loaded_objects, end_calls}
use Rattle.klp_model.specs.ModuleCalls.{Part, parts, part_refuses, coming_calls, going_calls}
use Rattle.klp_model.specs.ShadowStep.{shadow_changed}
use Rattle.klp_model.specs.Enabling.{enabled_or_gone, turned_or_started}
use Rattle.klp_model.specs.Forcing.{forced}
use Rattle.klp_model.specs.Completing.{from_patch, without_older, completed_or_pending, polled}
use Rattle.klp_model.specs.ModuleStep.{come_or_refused}
use Rattle.klp_model.specs.TaskStep.{change_task}
use Rattle.klp_model.specs.Step.{accepted}
use Rattle.klp_model.specs.Run.{next}
use Rattle.klp_model.specs.Stated.{IsStated}
use Rattle.klp_model.proofs.OrderLemmas.{numbers}
use Rattle.klp_model.proofs.RefusalLemmas.{next_accepted, next_refused}
use Rattle.klp_model.proofs.ShadowLemmas.{shadow_installed}

abbrev ids_in : List (ℕ × ℕ) → List ℕ
ids_in values = map (λ (v : ℕ × ℕ). v.0) values

set_keeps : (id value : ℕ) (states : List (ℕ × ℕ)) → ids_in (set_among id value states) ≡ ids_in states
set_keeps id value [] = refl
set_keeps id value (state ∷ states) = by (state.0 == id) refl (set_keeps id value states)
  where
    by : (t : Bool) → (state.0 == id) ≡ t → ids_in (set_among id value states) ≡ ids_in states
        → ids_in (cond t ((id, value) ∷ states) (state ∷ set_among id value states)) ≡ state.0 ∷ ids_in states
    by true e rest = ap (λ own. own ∷ ids_in states) (sym (eqb-true state.0 id e))
    by false e rest = ap (λ ids. state.0 ∷ ids) rest

at_0 : (ids : List ℕ) → ids_in (map (λ id. (id, 0)) ids) ≡ ids
at_0 [] = refl
at_0 (id ∷ ids) = ap (λ rest. id ∷ rest) (at_0 ids)

module _ (setting : Setting) where
  -- patch by patch
  abbrev AreStated : List Installed → Type 0
  AreStated [] = Unit {0}
  AreStated (first ∷ newer) = (ids_in first.values ≡ state_ids setting first.patch) × AreStated newer

  same_list : (installed : List Installed) → AreStated installed → map (λ (i : Installed). ids_in i.values) installed ≡ map (state_ids setting) (numbers installed)
  same_list [] stated = refl
  same_list (first ∷ newer) stated =
      ap (λ ids. ids ∷ map (λ (i : Installed). ids_in i.values) newer) stated.0 ∙ ap (λ rest. state_ids setting first.patch ∷ rest) (same_list newer stated.1)

  each_same : (installed : List Installed) → map (λ (i : Installed). ids_in i.values) installed ≡ map (state_ids setting) (numbers installed) → AreStated installed
  each_same [] e = tt
  each_same (first ∷ newer) e = (cc, each_same newer cc)

  -- lists that change
  stated-set : (patch id value : ℕ) (installed : List Installed) → AreStated installed → AreStated (change_states patch (set_among id value) installed)
  stated-set patch id value [] stated = tt
  stated-set patch id value (first ∷ newer) stated = by (first.patch == patch) (stated-set patch id value newer stated.1)
    where
      by : (t : Bool) → AreStated (change_states patch (set_among id value) newer)
          → AreStated (cond t (record first { values = set_among id value first.values } ∷ newer) (first ∷ change_states patch (set_among id value) newer))
      by true rest = (set_keeps id value first.values ∙ stated.0, stated.1)
      by false rest = (stated.0, rest)

  stated-taken_out : (patch : ℕ) (installed : List Installed) → AreStated installed → AreStated (taken_out patch installed)
  stated-taken_out patch [] stated = tt
  stated-taken_out patch (first ∷ newer) stated = by (first.patch == patch) (stated-taken_out patch newer stated.1)
    where
      by : (t : Bool) → AreStated (taken_out patch newer) → AreStated (cond t newer (first ∷ taken_out patch newer))
      by true rest = stated.1
      by false rest = (stated.0, rest)

  stated-from_patch : (patch : ℕ) (installed : List Installed) → AreStated installed → AreStated (from_patch patch installed)
  stated-from_patch patch [] stated = tt
  stated-from_patch patch (first ∷ newer) stated = by (first.patch == patch) (stated-from_patch patch newer stated.1)
    where
      by : (t : Bool) → AreStated (from_patch patch newer) → AreStated (cond t (first ∷ newer) (from_patch patch newer))
      by true rest = stated
      by false rest = rest

  stated-put : (patch : ℕ) (installed : List Installed) → AreStated installed
      → AreStated (installed ++ record { patch = patch; values = map (λ id. (id, 0)) (state_ids setting patch) } ∷ [])
  stated-put patch [] stated = (at_0 (state_ids setting patch), tt)
  stated-put patch (first ∷ newer) stated = (stated.0, stated-put patch newer stated.1)

  -- callbacks
  stated-allocated : (world : World) (key : ShadowKey) (value : ShadowValue) (there : Option ShadowValue) → AreStated world.installed → AreStated (allocated world key value there).installed
  stated-allocated world key value None stated = stated
  stated-allocated world key value (Some was) stated = stated

  stated-taken : (world : World) (patch id : ℕ) (value : Option ℕ) → AreStated world.installed → AreStated (value_taken world patch id value).installed
  stated-taken world patch id None stated = stated
  stated-taken world patch id (Some value) stated = stated-set patch id value world.installed stated

  stated-edited : (patch : ℕ) (world : World) (edit : Edit) → AreStated world.installed → AreStated (edited patch world edit).installed
  stated-edited patch world (Alloc key value) stated = stated-allocated world key value (variable world key) stated
  stated-edited patch world (Free key) stated = stated
  stated-edited patch world (FreeAll id) stated = stated
  stated-edited patch world (SetData id value) stated = stated-set patch id value world.installed stated
  stated-edited patch world (TakePrev id) stated = stated-taken world patch id (previous_value world patch id) stated

  stated-edits : (patch : ℕ) (world : World) (edits : List Edit) → AreStated world.installed → AreStated (edited_by patch world edits).installed
  stated-edits patch world [] stated = stated
  stated-edits patch world (edit ∷ edits) stated = stated-edits patch (edited patch world edit) edits (stated-edited patch world edit stated)

  stated-calls : (world : World) (calls : List Call) → AreStated world.installed → AreStated (after_calls world calls).installed
  stated-calls world [] stated = stated
  stated-calls world (call ∷ calls) stated =
      stated-calls (effect call.patch world call.script) calls (stated-edits call.patch world (edits_made call.script) stated)

  -- events
  module _ (state : State) (stated : AreStated state.world.installed) where
    stated-enabled : (patch : ℕ) (found : Option (ℕ × PatchObject))
        → AreStated (enabled_or_gone state patch (after_calls (with_patch state.world patch (state_ids setting patch)) (enable_calls patch (loaded_objects setting state patch))) found).1.world.installed
    stated-enabled patch None = stated-calls _ (enable_calls patch (loaded_objects setting state patch)) (stated-put patch state.world.installed stated)
    stated-enabled patch (Some object) =
        stated-taken_out patch _ (stated-calls _ (enable_calls patch (loaded_objects setting state patch)) (stated-put patch state.world.installed stated))

    stated-turned : (patch : ℕ) (value moving : Bool) → AreStated (turned_or_started setting state patch value moving).1.world.installed
    stated-turned patch value true = stated
    stated-turned patch value false = stated-calls state.world (calls_of patch PreUn (loaded_objects setting state patch)) stated

    stated-forced : (moving : Option Transition) → AreStated (forced setting state moving).1.world.installed
    stated-forced None = stated
    stated-forced (Some move) = stated

    stated-older : (replace : Bool) (world : World) (patch : ℕ) → AreStated world.installed → AreStated (without_older replace world patch).installed
    stated-older true world patch before = stated-from_patch patch world.installed before
    stated-older false world patch before = before

    stated-settled : (target : Bool) (world : World) (move : Transition) → AreStated world.installed
        → AreStated (if target then without_older (replaces setting move.patch) world move.patch else without_patch world move.patch).installed
    stated-settled true world move before = stated-older (replaces setting move.patch) world move.patch before
    stated-settled false world move before = stated-taken_out move.patch world.installed before

    stated-tried : (move : Transition) (left : ℕ) → AreStated (completed_or_pending setting state move (tried setting state move) left).1.world.installed
    stated-tried move zero =
        stated-settled move.target (after_calls state.world (end_calls setting state (Some move))) move (stated-calls state.world (end_calls setting state (Some move)) stated)
    stated-tried move (suc left) = stated

    stated-polled : (moving : Option Transition) → AreStated (polled setting state moving).1.world.installed
    stated-polled None = stated
    stated-polled (Some move) = stated-tried move (pending setting state move)

    stated-come : (object : ℕ) (world : World) (found : Option Part) → AreStated world.installed → AreStated (come_or_refused (record state { world = world }) object found).1.world.installed
    stated-come object world None after = after
    stated-come object world (Some part) after = after

    stated-changed : (number : ℕ) (f : Task → Task) (task : Option Task) → AreStated (change_task state number f task).world.installed
    stated-changed number f None = stated
    stated-changed number f (Some task) = stated

    stated-shadow : (event : Event) → AreStated (shadow_changed state.world event).installed
    stated-shadow event = subst AreStated (sym (shadow_installed state.world event)) stated

    stated-accepted : (event : Event) → AreStated (accepted setting state event).1.world.installed
    stated-accepted (Enable patch) = stated-enabled patch (find refuses (loaded_objects setting state patch))
    stated-accepted (SetEnabled patch value) = stated-turned patch value (moves state.moving patch)
    stated-accepted (Force patch) = stated-forced state.moving
    stated-accepted Poll = stated-polled state.moving
    stated-accepted (Coming object) =
        stated-come object _ (find part_refuses (parts setting state object)) (stated-calls state.world (coming_calls state.moving (parts setting state object)) stated)
    stated-accepted (Going object) = stated-calls state.world (going_calls state.moving (parts setting state object)) stated
    stated-accepted (NewTask task) = stated
    stated-accepted (Fork parent child) = stated
    stated-accepted (EndTask task) = stated
    stated-accepted (EnterKernel task) = stated-changed task _ (task_at state.tasks task)
    stated-accepted (ExitToUser task) = stated-changed task _ (task_at state.tasks task)
    stated-accepted (Sleep task frames) = stated-changed task _ (task_at state.tasks task)
    stated-accepted (Wake task) = stated-changed task _ (task_at state.tasks task)
    stated-accepted (ShadowAlloc key value) = stated-shadow (ShadowAlloc key value)
    stated-accepted (ShadowGetOrAlloc key value) = stated-shadow (ShadowGetOrAlloc key value)
    stated-accepted (ShadowFree key) = stated-shadow (ShadowFree key)
    stated-accepted (ShadowFreeAll id) = stated-shadow (ShadowFreeAll id)

  pub stated_next : (state : State) (event : Event) → IsStated setting state → IsStated setting (next setting state event)
  stated_next state event is = by (accepts setting state event) refl
    where
      by : (t : Bool) → accepts setting state event ≡ t → IsStated setting (next setting state event)
      by true e =
          subst (IsStated setting) (sym (next_accepted setting state event e))
          (same_list (accepted setting state event).1.world.installed (stated-accepted state (each_same state.world.installed is) event))
      by false e = subst (IsStated setting) (sym (next_refused setting state event e)) is

  -- a state of this id
  named_value : (id : ℕ) (values : List (ℕ × ℕ)) → is_some (value_among id values) ≡ list_any (λ own. own == id) (ids_in values)
  named_value id [] = refl
  named_value id (state ∷ states) = by (state.0 == id) (named_value id states)
    where
      by : (t : Bool) → is_some (value_among id states) ≡ list_any (λ own. own == id) (ids_in states)
          → is_some (cond t (Some state.1) (value_among id states)) ≡ (t || list_any (λ own. own == id) (ids_in states))
      by true rest = refl
      by false rest = rest

  value_there : (patch id : ℕ) (installed : List Installed) → AreStated installed
      → is_some (value_among id (states_of patch installed)) ≡ (is_among patch installed && list_any (λ own. own == id) (state_ids setting patch))
  value_there patch id [] stated = refl
  value_there patch id (first ∷ newer) stated = by (first.patch == patch) refl (value_there patch id newer stated.1)
    where
      by : (t : Bool) → (first.patch == patch) ≡ t
          → is_some (value_among id (states_of patch newer)) ≡ (is_among patch newer && list_any (λ own. own == id) (state_ids setting patch))
          → is_some (value_among id (cond t first.values (states_of patch newer))) ≡ ((t || is_among patch newer) && list_any (λ own. own == id) (state_ids setting patch))
      by true e rest =
          named_value id first.values
          ∙ ap (list_any (λ own. own == id)) (stated.0 ∙ ap (state_ids setting) (eqb-true first.patch patch e))
      by false e rest = rest

  pub stated_value : (state : State) (patch id : ℕ) → IsStated setting state
      → is_some (state_value state.world patch id) ≡ (is_installed state patch && list_any (λ own. own == id) (state_ids setting patch))
  stated_value state patch id is = value_there patch id state.world.installed (each_same state.world.installed is)
