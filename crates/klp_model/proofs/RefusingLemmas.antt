-- What runs of the object that refuses, and of those behind it.
use Rattle.std.proofs.Common.{◌≡◌, ℕ, zero, suc, ◌+◌, ◌<◌, ◌≤◌, Bool, true, false, not, cond, List, [], ◌∷◌, ◌++◌, Option, Some, None, is_some, refl, sym, ap, subst, ◌∙◌, arith, append_assoc, append-nil}
use Rattle.std.specs.List.{find, before_first}
use Rattle.std.proofs.lemmas.Bool.{both_ways, not-false}
use Rattle.klp_types.specs.declared.callback.Which.{Which}
use Rattle.klp_types.specs.declared.callback.Which.TheVariants.{Pre, PostUn}
use Rattle.klp_types.specs.Setting.{Setting, PatchObject}
use Rattle.klp_types.specs.Script.{Script}
use Rattle.klp_types.specs.World.{World}
use Rattle.klp_types.specs.Callbacks.{call_of, calls_of, script_for, is_refusing, refuses, refused_calls, enable_calls}
use Rattle.klp_model.specs.declared.event.Event.{Event}
use Rattle.klp_model.specs.declared.event.Event.TheVariants.{Enable, SetEnabled, Force, Poll, Coming, Going}
use Rattle.klp_model.specs.State.{State, is_among, is_installed, is_moving}
use Rattle.klp_model.specs.Callbacks.{loaded_objects}
use Rattle.klp_model.specs.EventCalls.{calls}
use Rattle.klp_model.specs.ShadowStep.{shadow_changed, shadow_changes}
use Rattle.klp_model.specs.Refusals.{refusals, refusal}
use Rattle.klp_model.specs.Run.{next, run, callbacks_of_run}
use Rattle.klp_model.specs.Rounds.{kinds_for, repeated, enablings}
use Rattle.klp_model.specs.Company.{company_keys, IsOfCompany, AreFair, IsFairStart, IsFairCompany}
use Rattle.klp_model.proofs.ObjectLemmas.{Objects, before_first-cons, find_holds}
use Rattle.klp_model.specs.Refusals.{NoneHolds}
use Rattle.klp_model.proofs.RefusalLemmas.{none_holds}
use Rattle.klp_model.proofs.Phases.{IsGone, PhaseAt, Stage, IsBase}
use Rattle.klp_model.proofs.Phases.Stage.{Away, Moving, Settled}
use Rattle.klp_model.proofs.PlaceLemmas.{RiseFrom, kinds_for-append, other_call, own_call, apart_places', found_above, rise_loaded}
use Rattle.klp_model.proofs.PhaseLemmas.{loaded_same}
use Rattle.klp_model.proofs.RoundLemmas.{calls_accepted, enablings_first}
use Rattle.klp_model.proofs.TripLemmas as trip

-- the places of these objects are below this one
abbrev AllBelow : ℕ → Objects → Type 0
AllBelow place [] = Unit {0}
AllBelow place (object ∷ objects) = (object.0 < place) × AllBelow place objects

all_below : (n : ℕ) (objects : Objects) (refusing : ℕ × PatchObject) → RiseFrom n objects → find refuses objects ≡ Some refusing
    → AllBelow refusing.0 (before_first refuses objects)
all_below n [] refusing rise e = tt
all_below n (first ∷ objects) refusing rise e =
    subst (AllBelow refusing.0) (sym (before_first-cons refuses first objects)) (by (refuses first) e (all_below (suc first.0) objects refusing rise.1))
  where
    by : (t : Bool) → cond t (Some first) (find refuses objects) ≡ Some refusing
        → (find refuses objects ≡ Some refusing → AllBelow refusing.0 (before_first refuses objects))
        → AllBelow refusing.0 (cond t [] (first ∷ before_first refuses objects))
    by true e rest = tt
    by false e rest = (omega (arith, found_above (suc first.0) objects refusing rise.1 e), rest e)

module _ (patch : ℕ) where
  none_below : (which : Which) (above place : ℕ) (objects : Objects) → AllBelow above objects → above ≤ place → kinds_for place (calls_of patch which objects) ≡ []
  none_below which above place [] all le = refl
  none_below which above place (object ∷ objects) all le =
      other_call patch object.0 which (script_for which object.1.callbacks) place (calls_of patch which objects) (apart_places' object.0 place (omega (arith, all.0, le)))
      ∙ none_below which above place objects all.1 le

  -- what an enabling runs at a place that isn't below the object that refuses
  of_enabling : (objects : Objects) (refusing : ℕ × PatchObject) (place : ℕ) → RiseFrom 0 objects → find refuses objects ≡ Some refusing → refusing.0 ≤ place
      → kinds_for place (enable_calls patch objects)
      ≡ kinds_for place (call_of patch refusing.0 Pre (script_for Pre refusing.1.callbacks) ++ calls_of patch PostUn (before_first refuses objects))
  of_enabling objects refusing place rise found le =
      let before = before_first refuses objects in
      kinds_for-append place (calls_of patch Pre before) (refused_calls patch before (find refuses objects))
      ∙ ap (λ ks. ks ++ kinds_for place (refused_calls patch before (find refuses objects)))
      (none_below Pre refusing.0 place before (all_below 0 objects refusing rise found) le)
      ∙ ap (λ f. kinds_for place (refused_calls patch before f)) found

  there : (script : Option Script) → is_refusing script ≡ true → is_some script ≡ true
  there None e = cc
  there (Some script) e = refl

  pub of_refusing : (objects : Objects) (refusing : ℕ × PatchObject) → RiseFrom 0 objects → find refuses objects ≡ Some refusing
      → kinds_for refusing.0 (enable_calls patch objects) ≡ Pre ∷ []
  of_refusing objects refusing rise found =
      let before = before_first refuses objects in
      let script = script_for Pre refusing.1.callbacks in
      of_enabling objects refusing refusing.0 rise found (omega arith)
      ∙ own_call patch refusing.0 Pre script (calls_of patch PostUn before)
      ∙ ap (λ ks. cond (is_some script) (Pre ∷ ks) ks) (none_below PostUn refusing.0 refusing.0 before (all_below 0 objects refusing rise found) (omega arith))
      ∙ ap (λ b. cond b (Pre ∷ []) []) (there script (find_holds objects refusing found))

  pub of_those_behind : (objects : Objects) (refusing : ℕ × PatchObject) (place : ℕ) → RiseFrom 0 objects → find refuses objects ≡ Some refusing → refusing.0 < place
      → kinds_for place (enable_calls patch objects) ≡ []
  of_those_behind objects refusing place rise found behind =
      let before = before_first refuses objects in
      of_enabling objects refusing place rise found (omega (arith, behind))
      ∙ other_call patch refusing.0 Pre (script_for Pre refusing.1.callbacks) place (calls_of patch PostUn before) (apart_places' refusing.0 place behind)
      ∙ none_below PostUn refusing.0 place before (all_below 0 objects refusing rise found) (omega (arith, behind))

repeated_more : (m n : ℕ) (kinds : List Which) → repeated m kinds ++ repeated n kinds ≡ repeated (m + n) kinds
repeated_more zero n kinds = let e : n ≡ 0 + n = omega arith in ap (λ k. repeated k kinds) e
repeated_more (suc m) n kinds =
    let e : suc (m + n) ≡ suc m + n = omega arith in
    append_assoc kinds (repeated m kinds) (repeated n kinds) ∙ ap (λ ks. kinds ++ ks) (repeated_more m n kinds) ∙ ap (λ k. repeated k kinds) e

nothing_repeated : (n : ℕ) → repeated n [] ≡ []
nothing_repeated zero = refl
nothing_repeated (suc n) = nothing_repeated n

module _ (setting : Setting) (patch : ℕ) (start : State) (fair : IsFairStart setting patch start) (refusing : ℕ × PatchObject)
    (found : find refuses (loaded_objects setting start patch) ≡ Some refusing) (place : ℕ) (kinds : List Which)
    (own : kinds_for place (enable_calls patch (loaded_objects setting start patch)) ≡ kinds) where
  some_refuses : find refuses (loaded_objects setting start patch) ≡ None → ⊥
  some_refuses none = let never : Some refusing ≡ None = sym found ∙ none in cc

  -- the patch is never installed
  always_away : (base : World) (state : State) (stage : Stage) → PhaseAt setting patch start base stage state → IsGone setting patch start base state
  always_away base state Away is = is
  always_away base state Moving phase = absurd (some_refuses phase.1.none_refuses)
  always_away base state Settled is = absurd (some_refuses is.none_refuses)

  of_event : (base : World) (state : State) → IsGone setting patch start base state → (event : Event) → NoneHolds (refusals setting state event)
      → IsOfCompany patch (company_keys setting start patch) event → kinds_for place (calls setting state event) ≡ repeated (enablings (event ∷ [])) kinds
  of_event base state is (Enable other) open_ same =
      ap (λ p. kinds_for place (enable_calls p (loaded_objects setting state p))) same
      ∙ ap (λ objects. kinds_for place (enable_calls patch objects)) (loaded_same setting patch start fair state is.steady) ∙ own ∙ sym (append-nil kinds)
  of_event base state is (SetEnabled other value) open_ same =
      absurd (both_ways (is_installed state other) (ap (λ p. is_installed state p) same ∙ ap (is_among patch) is.installed ∙ fair.away) (not-false _ open_.1.0))
  of_event base state is (Force other) open_ never = absurd never
  of_event base state is Poll open_ apart =
      let never : true ≡ false = sym (ap (λ m. not (is_moving (record state { moving = m }))) is.moving) ∙ open_.0 in cc
  of_event base state is (Coming object) open_ never = absurd never
  of_event base state is (Going object) open_ never = absurd never
  of_event base state is other open_ apart = refl

  pub over_events : (events : List Event) (base : World) (state : State) → IsBase setting patch start base
      → AreFair setting patch (company_keys setting start patch) state events → (stage : Stage) → PhaseAt setting patch start base stage state
      → kinds_for place (callbacks_of_run setting state events) ≡ repeated (enablings events) kinds
  over_events [] base state is_base are_fair stage phase = refl
  over_events (event ∷ events) base state is_base are_fair stage phase =
      let on = trip.onward setting patch start fair event base state is_base are_fair.0 stage phase in
      let later = callbacks_of_run setting (next setting state event) events in
      ap (λ cs. kinds_for place (cs ++ later)) (calls_accepted (refusal setting state event) (calls setting state event) are_fair.0.accepted)
      ∙ kinds_for-append place (calls setting state event) later
      ∙ ap (λ ks. ks ++ kinds_for place later)
      (of_event base state (always_away base state stage phase) event (none_holds (refusals setting state event) are_fair.0.accepted) are_fair.0.of_company)
      ∙ ap (λ ks. repeated (enablings (event ∷ [])) kinds ++ ks)
      (over_events events (shadow_changed base event) (next setting state event) (trip.base_kept setting patch start fair base event are_fair.0.of_company is_base) are_fair.1 on.reached on.phase)
      ∙ repeated_more (enablings (event ∷ [])) (enablings events) kinds
      ∙ ap (λ n. repeated n kinds) (sym (enablings_first event events))

-- between two moments of a fair company
between : (setting : Setting) (patch : ℕ) (start : State) (first second third : List Event) → IsFairCompany setting patch start (first ++ second ++ third)
    → (refusing : ℕ × PatchObject) → find refuses (loaded_objects setting start patch) ≡ Some refusing → (place : ℕ) (kinds : List Which)
    → kinds_for place (enable_calls patch (loaded_objects setting start patch)) ≡ kinds
    → kinds_for place (callbacks_of_run setting (run setting start first) second) ≡ repeated (enablings second) kinds
between setting patch start first second third fair refusing found place kinds own =
    let keys = company_keys setting start patch in
    let base = shadow_changes start.world first in
    let both_fair = trip.fair-prefix setting patch keys start (first ++ second) third fair.fair_events in
    let first_fair = trip.fair-prefix setting patch keys start first second both_fair in
    let second_fair = trip.fair-rest setting patch keys start first second both_fair in
    let is_base = trip.start_base setting patch start fair.fair_start in
    let is_base_now = trip.base_after setting patch start fair.fair_start first start.world start is_base first_fair in
    let phase = trip.phase_after setting patch start fair.fair_start first start.world start is_base first_fair (trip.at_start setting patch start fair.fair_start) in
    over_events setting patch start fair.fair_start refusing found place kinds own second base (run setting start first) is_base_now second_fair phase.stage phase.holds

pub refusing_runs : (setting : Setting) (patch : ℕ) (start : State) (first second third : List Event) → IsFairCompany setting patch start (first ++ second ++ third)
    → (object : ℕ × PatchObject) → find refuses (loaded_objects setting start patch) ≡ Some object
    → kinds_for object.0 (callbacks_of_run setting (run setting start first) second) ≡ repeated (enablings second) (Pre ∷ [])
refusing_runs setting patch start first second third fair object found =
    between setting patch start first second third fair object found object.0 (Pre ∷ []) (of_refusing patch (loaded_objects setting start patch) object (rise_loaded setting start patch) found)

pub behind_runs : (setting : Setting) (patch : ℕ) (start : State) (first second third : List Event) → IsFairCompany setting patch start (first ++ second ++ third)
    → (object : ℕ × PatchObject) → find refuses (loaded_objects setting start patch) ≡ Some object
    → (place : ℕ) → object.0 < place → kinds_for place (callbacks_of_run setting (run setting start first) second) ≡ []
behind_runs setting patch start first second third fair object found place behind =
    between setting patch start first second third fair object found place []
    (of_those_behind patch (loaded_objects setting start patch) object place (rise_loaded setting start patch) found behind)
    ∙ nothing_repeated (enablings second)
