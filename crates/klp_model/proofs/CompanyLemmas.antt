-- Over a fair company: from phase to phase, and what holds when the patch isn't installed.
use Rattle.std.proofs.Common.{◌≡◌, ◌⊎◌, inl, inr, ℕ, Bool, true, false, not, [], ◌∷◌, Option, Some, None, refl, sym, ap, subst, ◌∙◌}
use Rattle.std.proofs.lemmas.Bool.{both_ways, not-false}
use Rattle.klp_types.specs.declared.shadow.ShadowKey.{ShadowKey}
use Rattle.klp_types.specs.declared.callback.Which.TheVariants.{Pre, Post}
use Rattle.klp_model.specs.declared.event.Event.{Event}
use Rattle.klp_model.specs.declared.event.Event.TheVariants.{Enable, SetEnabled, Force, Poll, Coming, Going, NewTask, Fork, EndTask, EnterKernel, ExitToUser, Sleep, Wake, ShadowAlloc, ShadowGetOrAlloc, ShadowFree, ShadowFreeAll}
use Rattle.klp_types.specs.declared.version.Transition.{Transition}
use Rattle.klp_types.specs.Setting.{Setting}
use Rattle.klp_types.specs.World.{World, ShadowValue, variable}
use Rattle.klp_model.specs.Task.{task_at}
use Rattle.klp_model.specs.State.{State, is_among, is_installed, is_moving, with_world}
use Rattle.klp_model.specs.ShadowStep.{shadow_changed, concerns}
use Rattle.klp_model.specs.Step.{accepted}
use Rattle.klp_model.specs.Refusals.{refusals}
use Rattle.klp_model.specs.Completing.{polled}
use Rattle.klp_model.specs.Company.{taking_part, company_keys, replaces_older, drops_older, IsOfCompany, IsFairStart}
use Rattle.klp_model.proofs.WorldLemmas.{is_among-last}
use Rattle.klp_model.proofs.ObjectLemmas.{objects_at, objects_leave}
use Rattle.klp_model.proofs.ShadowEventLemmas.{shadow_at, shadow_changed_at, shadow_leaves, shadow_installed}
use Rattle.klp_model.specs.Refusals.{NoneHolds}
use Rattle.klp_model.specs.EventCalls.{calls, poll_calls}
use Rattle.klp_model.specs.Rounds.{enablings}
use Rattle.klp_model.proofs.Phases.{IsGone, IsOnTheMove, IsSettled, PhaseAt, Stage, Onward, IsBase}
use Rattle.klp_model.proofs.Phases.Stage.{Away, Moving, Settled}
use Rattle.klp_model.proofs.Phases.Advance.{stays}
use Rattle.klp_model.proofs.PlaceLemmas.{ran_none}
use Rattle.klp_model.proofs.PhaseLemmas as phases

module _ (setting : Setting) (patch : ℕ) (start : State) (fair : IsFairStart setting patch start) where
  abbrev keys : ShadowKey → Bool
  keys = company_keys setting start patch

  module _ (base : World) (is_base : IsBase setting patch start base) (state : State) where
    installed_gone : IsGone setting patch start base state → is_installed state patch ≡ false
    installed_gone is = ap (is_among patch) is.installed ∙ fair.away

    pub installed_moving : (target : Bool) → IsOnTheMove setting patch start base state target → is_installed state patch ≡ true
    installed_moving target is = ap (is_among patch) is.last.is ∙ is_among-last patch start.world.installed is.last.values

    pub installed_settled : IsSettled setting patch start base state → is_installed state patch ≡ true
    installed_settled is = ap (is_among patch) is.last.is ∙ is_among-last patch start.world.installed is.last.values

    abbrev Then : Stage → Event → Type 0
    Then stage event =
        Onward setting patch start (shadow_changed base event) stage (calls setting state event) (enablings (event ∷ [])) (accepted setting state event).1

    enable_kept : NoneHolds (refusals setting state (Enable patch)) → (stage : Stage) → PhaseAt setting patch start base stage state → Then stage (Enable patch)
    enable_kept open_ Away is = phases.enabled_from_gone setting patch start fair base is_base state is
    enable_kept open_ Moving phase = absurd (both_ways _ open_.1.0 (installed_moving phase.0 phase.1))
    enable_kept open_ Settled is = absurd (both_ways _ open_.1.0 (installed_settled is))

    set_enabled_kept : (value : Bool) → NoneHolds (refusals setting state (SetEnabled patch value)) → (stage : Stage) → PhaseAt setting patch start base stage state → Then stage (SetEnabled patch value)
    set_enabled_kept value open_ Away is = absurd (both_ways _ (installed_gone is) (not-false _ open_.1.0))
    set_enabled_kept value open_ Moving phase = phases.turned_on_the_move setting patch start fair base is_base state phase.0 value phase.1
    set_enabled_kept value open_ Settled is = phases.turned_settled setting patch start fair base is_base state value is

    poll_moving : (target : Bool) (moving : Option Transition) → Some (record { patch = patch; target = target }) ≡ moving
        → IsOnTheMove setting patch start base state target → replaces_older setting state moving ≡ false
        → Onward setting patch start base Moving (poll_calls setting state moving) 0 (polled setting state moving).1
    poll_moving target moving e is =
        subst (λ m. replaces_older setting state m ≡ false → Onward setting patch start base Moving (poll_calls setting state m) 0 (polled setting state m).1) e
        (λ none. phases.polled_on_the_move setting patch start fair base is_base state target _ _ is none)

    still_refused : state.moving ≡ None → NoneHolds (refusals setting state Poll) → ⊥
    still_refused is open_ = let never : true ≡ false = sym (ap (λ m. not (is_moving (record state { moving = m }))) is) ∙ open_.0 in cc

    poll_kept : NoneHolds (refusals setting state Poll) → drops_older setting state Poll ≡ false → (stage : Stage) → PhaseAt setting patch start base stage state → Then stage Poll
    poll_kept open_ none Away is = absurd (still_refused is.moving open_)
    poll_kept open_ none Moving phase = poll_moving phase.0 state.moving (sym phase.1.moving) phase.1 none
    poll_kept open_ none Settled is = absurd (still_refused is.moving open_)

    -- what callbacks and a shadow event do to a variable may change places
    module _ (event : Event) (apart : (key : ShadowKey) → concerns event key ≡ true → keys key ≡ false) where
      either : (key : ShadowKey) → (concerns event key ≡ false) ⊎ (keys key ≡ false)
      either key = by (concerns event key) refl
        where
          by : (t : Bool) → concerns event key ≡ t → (concerns event key ≡ false) ⊎ (keys key ≡ false)
          by true is = inr (apart key is)
          by false is = inl is

      abbrev now : State
      now = with_world state (shadow_changed state.world event)

      changed : (f : Option ShadowValue → Option ShadowValue) (key : ShadowKey) → (keys key ≡ false → (was : Option ShadowValue) → f was ≡ was)
          → variable state.world key ≡ f (variable base key) → variable now.world key ≡ f (variable (shadow_changed base event) key)
      changed f key leaves same =
          shadow_changed_at state.world event key
          ∙ elim (either key) as (λ _. shadow_at key (variable state.world key) event ≡ f (shadow_at key (variable base key) event)) [
            | inl free ↦ shadow_leaves key (variable state.world key) event free ∙ same ∙ sym (ap f (shadow_leaves key (variable base key) event free))
            | inr outside ↦ ap (λ was. shadow_at key was event) (same ∙ leaves outside (variable base key)) ∙ sym (leaves outside (shadow_at key (variable base key) event))
          ]
          ∙ sym (ap f (shadow_changed_at base event key))

      changed_phase : (stage : Stage) → PhaseAt setting patch start base stage state → PhaseAt setting patch start (shadow_changed base event) stage now
      changed_phase Away is = record {
        steady = record { loaded = is.steady.loaded; pinned = is.steady.pinned };
        moving = is.moving;
        installed = shadow_installed state.world event ∙ is.installed;
        variables = λ key. changed (λ was. was) key (λ outside was. refl) (is.variables key);
      }
      changed_phase Moving phase = let (target, is) = phase in (
        target,
        record {
          steady = record { loaded = is.steady.loaded; pinned = is.steady.pinned };
          none_refuses = is.none_refuses;
          moving = is.moving;
          last = record { values = is.last.values; is = shadow_installed state.world event ∙ is.last.is };
          variables = λ key. changed (λ was. objects_at key was Pre (taking_part setting start patch)) key
              (λ outside was. objects_leave Pre (taking_part setting start patch) key was outside) (is.variables key);
        },
      )
      changed_phase Settled is = record {
        steady = record { loaded = is.steady.loaded; pinned = is.steady.pinned };
        none_refuses = is.none_refuses;
        moving = is.moving;
        last = record { values = is.last.values; is = shadow_installed state.world event ∙ is.last.is };
        variables = λ key. changed (λ was. objects_at key (objects_at key was Pre (taking_part setting start patch)) Post (taking_part setting start patch)) key
            (λ outside was. objects_leave Post (taking_part setting start patch) key _ outside ∙ objects_leave Pre (taking_part setting start patch) key was outside) (is.variables key);
      }

      shadow_kept : (stage : Stage) → PhaseAt setting patch start base stage state → Onward setting patch start (shadow_changed base event) stage [] 0 now
      shadow_kept stage phase = record { reached = stage; kinds = []; advance = stays; ran = ran_none (taking_part setting start patch); phase = changed_phase stage phase }

    pub kept : (event : Event) → NoneHolds (refusals setting state event) → IsOfCompany patch keys event → drops_older setting state event ≡ false
        → (stage : Stage) → PhaseAt setting patch start base stage state → Then stage event
    kept (Enable other) open_ same none stage phase =
        subst (λ p. NoneHolds (refusals setting state (Enable p)) → Then stage (Enable p)) (sym same) (λ o. enable_kept o stage phase) open_
    kept (SetEnabled other value) open_ same none stage phase =
        subst (λ p. NoneHolds (refusals setting state (SetEnabled p value)) → Then stage (SetEnabled p value)) (sym same) (λ o. set_enabled_kept value o stage phase) open_
    kept (Force other) open_ never none stage phase = absurd never
    kept (Coming object) open_ never none stage phase = absurd never
    kept (Going object) open_ never none stage phase = absurd never
    kept Poll open_ apart none stage phase = poll_kept open_ none stage phase
    kept (NewTask task) open_ apart none stage phase = phases.with_other_tasks setting patch start fair base is_base stage state _ phase
    kept (Fork parent child) open_ apart none stage phase = phases.with_other_tasks setting patch start fair base is_base stage state _ phase
    kept (EndTask task) open_ apart none stage phase = phases.with_other_tasks setting patch start fair base is_base stage state _ phase
    kept (EnterKernel task) open_ apart none stage phase = phases.with_task_changed setting patch start fair base is_base stage state task _ (task_at state.tasks task) phase
    kept (ExitToUser task) open_ apart none stage phase = phases.with_task_changed setting patch start fair base is_base stage state task _ (task_at state.tasks task) phase
    kept (Sleep task frames) open_ apart none stage phase = phases.with_task_changed setting patch start fair base is_base stage state task _ (task_at state.tasks task) phase
    kept (Wake task) open_ apart none stage phase = phases.with_task_changed setting patch start fair base is_base stage state task _ (task_at state.tasks task) phase
    kept (ShadowAlloc key value) open_ apart none stage phase = shadow_kept (ShadowAlloc key value) apart stage phase
    kept (ShadowGetOrAlloc key value) open_ apart none stage phase = shadow_kept (ShadowGetOrAlloc key value) apart stage phase
    kept (ShadowFree key) open_ apart none stage phase = shadow_kept (ShadowFree key) apart stage phase
    kept (ShadowFreeAll id) open_ apart none stage phase = shadow_kept (ShadowFreeAll id) apart stage phase
