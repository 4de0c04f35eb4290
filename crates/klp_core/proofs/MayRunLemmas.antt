-- An event for which no callback may run runs none.
use Rattle.std.proofs.Common.{sum_by, ◌≡◌, ℕ, zero, suc, ◌&&◌, Bool, true, false, cond, List, [], ◌∷◌, ◌++◌, length, Option, Some, None, refl, sym, ap, ◌∙◌, arith}
use Rattle.std.specs.Prelude.{find, is_none}
use Rattle.std.specs.List.{before_first, flat_map}
use Rattle.std.proofs.lemmas.Bool.{false≢true}
use Rattle.std.proofs.lemmas.List.Sums.{sum_by-append, sum_by-cons}
use Rattle.klp_types.specs.declared.callback.Which.TheVariants.{Pre, PostUn}
use Rattle.klp_types.specs.declared.version.Transition.{Transition}
use Rattle.klp_types.specs.Setting.{Setting, PatchObject}
use Rattle.klp_types.specs.Script.{Script}
use Rattle.klp_types.specs.Callbacks.{Call, script_for, call_of, calls_of, is_refusing, refuses, enable_calls}
use Rattle.klp_model.specs.declared.event.Event.{Event}
use Rattle.klp_model.specs.declared.event.Event.TheVariants.{Enable, SetEnabled, Force, Poll, Coming, Going, NewTask, Fork, EndTask, EnterKernel, ExitToUser, Sleep, Wake, ShadowAlloc, ShadowGetOrAlloc, ShadowFree, ShadowFreeAll}
use Rattle.klp_model.specs.declared.event.Refusal.{Refusal}
use Rattle.klp_model.specs.State.{State}
use Rattle.klp_model.specs.Blocked.{pending}
use Rattle.klp_model.specs.Callbacks.{loaded_objects, end_calls}
use Rattle.klp_model.specs.ModuleCalls.{Part, parts, part_refuses, parts_before, coming_calls, going_calls}
use Rattle.klp_model.specs.EventCalls.{once_done, poll_calls, calls, coming_may_run, going_may_run, may_run}
use Rattle.klp_model.specs.Refusals.{refusal}
use Rattle.klp_model.specs.Step.{calls_unless, callbacks_of}
use Rattle.klp_patch.specs.Calls.{are_some}
use Rattle.klp_patch.specs.Refusing.{pre_calls}
use Rattle.klp_patch.specs.UntilRefused.{calls_until_refused}
use Rattle.klp_patch.proofs.CallLemmas.{clean_calls, enable-parts}
use Rattle.klp_patch.proofs.ModulePartsLemmas.{coming-passed, coming-refused, coming-weight, going-weight}
use Rattle.klp_core.specs.Events.{may_run_some}

none_there : (calls : List Call) → are_some calls ≡ false → calls ≡ []
none_there [] none = refl
none_there (call ∷ calls) none = absurd (false≢true (sym none))

first_none : (calls others : List Call) → calls ++ others ≡ [] → calls ≡ []
first_none [] others none = refl
first_none (call ∷ calls) others none = let no = ap length none in absurd (omega (arith, no))

-- how many callbacks these are
abbrev one : Call → ℕ
one call = 1

counted_none : (calls : List Call) → sum_by one calls ≡ 0 → calls ≡ []
counted_none [] none = refl
counted_none (call ∷ calls) none = absurd (omega (arith, sum_by-cons one call calls, none))

-- a patch without pre-patch is never refused by one
module _ (patch : ℕ) where
  abbrev own : ℕ × PatchObject → Option Script → List Call
  own object script = call_of patch object.0 Pre script

  none_refuses : (objects : List (ℕ × PatchObject)) → calls_of patch Pre objects ≡ [] → (pre_calls patch objects ≡ []) × (find refuses objects ≡ None)
  none_refuses [] none = (refl, refl)
  none_refuses (object ∷ objects) none = by (none_refuses objects) (script_for Pre object.1.callbacks) refl
    where
      by : (calls_of patch Pre objects ≡ [] → (pre_calls patch objects ≡ []) × (find refuses objects ≡ None))
          → (script : Option Script) → script_for Pre object.1.callbacks ≡ script
          → (pre_calls patch (object ∷ objects) ≡ []) × (find refuses (object ∷ objects) ≡ None)
      by later None is =
          let behind = later (sym (ap (λ s. own object s ++ calls_of patch Pre objects) is) ∙ none) in (
            ap (λ s. own object s ++ cond (is_refusing s) [] (pre_calls patch objects)) is ∙ behind.0,
            ap (λ s. cond (is_refusing s) (Some object) (find refuses objects)) is ∙ behind.1,
          )
      by later (Some script) is =
          let no = ap length (sym (ap (λ s. own object s ++ calls_of patch Pre objects) is) ∙ none) in
          absurd (omega (arith, no))

  enables_none : (objects : List (ℕ × PatchObject)) → calls_of patch Pre objects ++ calls_of patch PostUn objects ≡ [] → enable_calls patch objects ≡ []
  enables_none objects none =
      let quiet = none_refuses objects (first_none (calls_of patch Pre objects) (calls_of patch PostUn objects) none) in
      enable-parts patch objects ∙ ap (λ before. before ++ clean_calls patch (before_first refuses objects) (find refuses objects)) quiet.0
      ∙ ap (clean_calls patch (before_first refuses objects)) quiet.1

-- nothing is behind the end of a transition, complete or not
done_none : (left : ℕ) → once_done left [] ≡ []
done_none zero = refl
done_none (suc left) = refl

polls_none : (setting : Setting) (state : State) (moving : Option Transition) → end_calls setting state moving ≡ [] → poll_calls setting state moving ≡ []
polls_none setting state None none = refl
polls_none setting state (Some move) none = ap (once_done (pending setting state move)) none ∙ done_none (pending setting state move)

-- a module that comes or goes
module _ (moving : Option Transition) where
  comes_none : (parts : List Part) (found : Option Part) → find part_refuses parts ≡ found → flat_map (coming_may_run moving) parts ≡ [] → coming_calls moving parts ≡ []
  comes_none parts None is none =
      let weight = coming-weight moving one parts in
      let may = ap (sum_by one) none in
      coming-passed moving parts is ∙ counted_none (calls_until_refused moving parts) (omega (arith, weight, may))
  comes_none parts (Some part) is none =
      let weight = coming-weight moving one parts in
      let may = ap (sum_by one) none in
      let both = sum_by-append one (calls_until_refused moving parts) (going_calls moving (parts_before parts)) in
      coming-refused moving parts part is ∙ counted_none (calls_until_refused moving parts ++ going_calls moving (parts_before parts)) (omega (arith, weight, may, both))

  goes_none : (parts : List Part) → flat_map (going_may_run moving) parts ≡ [] → going_calls moving parts ≡ []
  goes_none parts none = let may = ap (sum_by one) none in counted_none (going_calls moving parts) (omega (arith, going-weight moving one parts, may))

runs_none : (setting : Setting) (state : State) (event : Event) → may_run setting state event ≡ [] → calls setting state event ≡ []
runs_none setting state (Enable patch) none = enables_none patch (loaded_objects setting state patch) none
runs_none setting state (SetEnabled patch value) none = none
runs_none setting state (Force patch) none = refl
runs_none setting state Poll none = polls_none setting state state.moving none
runs_none setting state (Coming object) none =
    comes_none state.moving (parts setting state object) (find part_refuses (parts setting state object)) refl none
runs_none setting state (Going object) none = goes_none state.moving (parts setting state object) none
runs_none setting state (NewTask task) none = refl
runs_none setting state (Fork parent child) none = refl
runs_none setting state (EndTask task) none = refl
runs_none setting state (EnterKernel task) none = refl
runs_none setting state (ExitToUser task) none = refl
runs_none setting state (Sleep task frames) none = refl
runs_none setting state (Wake task) none = refl
runs_none setting state (ShadowAlloc key value) none = refl
runs_none setting state (ShadowGetOrAlloc key value) none = refl
runs_none setting state (ShadowFree key) none = refl
runs_none setting state (ShadowFreeAll id) none = refl

unless_refused : (calls may : List Call) (there : Bool) → are_some may ≡ there → (may ≡ [] → calls ≡ []) → (found : Option Refusal)
    → (there && is_none found) ≡ false → calls_unless found calls ≡ []
unless_refused calls may there is runs (Some reason) none = refl
unless_refused calls may true is runs None none = absurd (false≢true (sym none))
unless_refused calls may false is runs None none = runs (none_there may is)

pub none_runs : (setting : Setting) (state : State) (event : Event) → may_run_some setting state event ≡ false → callbacks_of setting state event ≡ []
none_runs setting state event =
    unless_refused (calls setting state event) (may_run setting state event) (are_some (may_run setting state event)) refl (runs_none setting state event)
    (refusal setting state event)
