-- What runs of an object over the rounds of a patch.
use Rattle.std.proofs.Common.{◌≡◌, ℕ, suc, ◌+◌, true, false, List, [], ◌∷◌, ◌++◌, length, Option, Some, None, is_none, refl, sym, ap, subst, ◌∙◌, arith, append_assoc, append-nil}
use Rattle.std.specs.Prelude.{slice_get}
use Rattle.std.proofs.lemmas.Bool.{both_ways}
use Rattle.klp_types.specs.declared.callback.Which.{Which}
use Rattle.klp_types.specs.declared.callback.Which.TheVariants.{Pre, Post, PreUn, PostUn}
use Rattle.klp_model.specs.declared.event.Event.{Event}
use Rattle.klp_model.specs.declared.event.Event.TheVariants.{Enable}
use Rattle.klp_model.specs.declared.event.Refusal.{Refusal}
use Rattle.klp_types.specs.Setting.{Setting, PatchObject}
use Rattle.klp_types.specs.World.{World}
use Rattle.klp_model.specs.State.{State, is_installed}
use Rattle.klp_types.specs.Callbacks.{Call}
use Rattle.klp_model.specs.EventCalls.{calls}
use Rattle.klp_model.specs.ShadowStep.{shadow_changed, shadow_changes}
use Rattle.klp_model.specs.Refusals.{refusal}
use Rattle.klp_model.specs.Step.{calls_unless}
use Rattle.klp_model.specs.Run.{next, run, callbacks_of_run}
use Rattle.klp_model.specs.Rounds.{turns, round, rounds, those_there, kinds_for, enablings, RanInRounds, RanOneRound}
use Rattle.klp_model.specs.Company.{taking_part, company_keys, AreFair, IsFairStart, IsFairCompany}
use Rattle.klp_model.proofs.RunLemmas.{run-append}
use Rattle.klp_model.proofs.Phases.{PhaseAt, Stage, Advance, Ran, IsBase}
use Rattle.klp_model.proofs.Phases.Stage.{Away, Moving, Settled}
use Rattle.klp_model.proofs.Phases.Advance.{stays, enables, fails, settles, departs, begins_to_leave}
use Rattle.klp_model.proofs.PlaceLemmas.{ran_none, ran_both}
use Rattle.klp_model.proofs.TripLemmas as trip

-- what is still to run, from a stage on, where the patch is gone in the end: so many turns of this round, and these rounds
abbrev pub left_of : Stage → ℕ → List ℕ → List Which
left_of Away n ns = rounds ns
left_of Moving n ns = turns n ++ PostUn ∷ rounds ns
left_of Settled n ns = PreUn ∷ turns n ++ PostUn ∷ rounds ns

pub record Left (stage : Stage) (kinds : List Which) (enabled : ℕ) : Type 0 where
  pub turns_left : ℕ
  pub rounds_left : List ℕ
  pub count : length rounds_left ≡ enabled
  pub is : kinds ≡ left_of stage turns_left rounds_left

pub before_left : (from to : Stage) (kinds rest : List Which) (now later : ℕ) → Advance from kinds to now → Left to rest later → Left from (kinds ++ rest) (now + later)
before_left from to kinds rest now later stays left = record { turns_left = left.turns_left; rounds_left = left.rounds_left; count = left.count ∙ omega arith; is = left.is }
before_left from to kinds rest now later enables left = record {
  turns_left = 0;
  rounds_left = left.turns_left ∷ left.rounds_left;
  count = omega (arith, left.count);
  is = ap (λ ks. Pre ∷ ks) (left.is ∙ sym (append_assoc (turns left.turns_left) (PostUn ∷ []) (rounds left.rounds_left)));
}
before_left from to kinds rest now later fails left = record {
  turns_left = 0;
  rounds_left = 0 ∷ left.rounds_left;
  count = omega (arith, left.count);
  is = ap (λ ks. Pre ∷ PostUn ∷ ks) left.is;
}
before_left from to kinds rest now later settles left = record {
  turns_left = suc left.turns_left;
  rounds_left = left.rounds_left;
  count = left.count ∙ omega arith;
  is = ap (λ ks. Post ∷ ks) left.is;
}
before_left from to kinds rest now later departs left = record {
  turns_left = 0;
  rounds_left = left.rounds_left;
  count = left.count ∙ omega arith;
  is = ap (λ ks. PostUn ∷ ks) left.is;
}
before_left from to kinds rest now later begins_to_leave left = record {
  turns_left = left.turns_left;
  rounds_left = left.rounds_left;
  count = left.count ∙ omega arith;
  is = ap (λ ks. PreUn ∷ ks) left.is;
}

pub calls_accepted : (reason : Option Refusal) (cs : List Call) → is_none reason ≡ true → calls_unless reason cs ≡ cs
calls_accepted None cs e = refl
calls_accepted (Some refusal) cs e = cc

pub enablings_first : (event : Event) (events : List Event) → enablings (event ∷ events) ≡ enablings (event ∷ []) + enablings events
enablings_first (Enable patch) events = omega arith
enablings_first other events = omega arith

-- over the objects that take part
pub record RanOn (setting : Setting) (patch : ℕ) (start : State) (stage : Stage) (cs : List Call) (enabled : ℕ) : Type 0 where
  pub kinds : List Which
  pub ran : Ran (taking_part setting start patch) cs kinds
  pub left : Left stage kinds enabled

module _ (setting : Setting) (patch : ℕ) (start : State) (fair : IsFairStart setting patch start) where
  pub ran_in_rounds : (events : List Event) (base : World) (state : State) → IsBase setting patch start base
      → AreFair setting patch (company_keys setting start patch) state events → (stage : Stage) → PhaseAt setting patch start base stage state
      → is_installed (run setting state events) patch ≡ false
      → RanOn setting patch start stage (callbacks_of_run setting state events) (enablings events)
  ran_in_rounds [] base state is_base are_fair Away phase away =
      record { kinds = []; ran = ran_none (taking_part setting start patch); left = record { turns_left = 0; rounds_left = []; count = refl; is = refl } }
  ran_in_rounds [] base state is_base are_fair Moving phase away = absurd (both_ways _ away (trip.installed_at_moving setting patch start fair base state is_base phase))
  ran_in_rounds [] base state is_base are_fair Settled phase away = absurd (both_ways _ away (trip.installed_at_settled setting patch start fair base state is_base phase))
  ran_in_rounds (event ∷ events) base state is_base are_fair stage phase away =
      let on = trip.onward setting patch start fair event base state is_base are_fair.0 stage phase in
      let rest = ran_in_rounds events (shadow_changed base event) (next setting state event)
      (trip.base_kept setting patch start fair base event are_fair.0.of_company is_base) are_fair.1 on.reached on.phase away in
      record {
        kinds = on.kinds ++ rest.kinds;
        ran = subst (λ cs. Ran (taking_part setting start patch) (cs ++ callbacks_of_run setting (next setting state event) events) (on.kinds ++ rest.kinds))
            (sym (calls_accepted (refusal setting state event) (calls setting state event) are_fair.0.accepted))
            (ran_both (taking_part setting start patch) (calls setting state event) (callbacks_of_run setting (next setting state event) events) on.kinds rest.kinds on.ran rest.ran);
        left = subst (Left stage (on.kinds ++ rest.kinds)) (sym (enablings_first event events))
            (before_left stage on.reached on.kinds rest.kinds (enablings (event ∷ [])) (enablings events) on.advance rest.left);
      }

-- the rounds of a patch between two moments at which it isn't installed
pub in_rounds : (setting : Setting) (patch : ℕ) (start : State) (first second third : List Event) → IsFairCompany setting patch start (first ++ second ++ third)
    → is_installed (run setting start first) patch ≡ false → is_installed (run setting start (first ++ second)) patch ≡ false
    → RanInRounds (taking_part setting start patch) (callbacks_of_run setting (run setting start first) second) (enablings second)
in_rounds setting patch start first second third fair before after =
    let keys = company_keys setting start patch in
    let base = shadow_changes start.world first in
    let now = run setting start first in
    let both_fair = trip.fair-prefix setting patch keys start (first ++ second) third fair.fair_events in
    let first_fair = trip.fair-prefix setting patch keys start first second both_fair in
    let second_fair = trip.fair-rest setting patch keys start first second both_fair in
    let is_base = trip.start_base setting patch start fair.fair_start in
    let is_base_now = trip.base_after setting patch start fair.fair_start first start.world start is_base first_fair in
    let phase = trip.phase_after setting patch start fair.fair_start first start.world start is_base first_fair (trip.at_start setting patch start fair.fair_start) in
    let away = trip.phase_away setting patch start fair.fair_start base now is_base_now phase.stage phase.holds before in
    let ran = ran_in_rounds setting patch start fair.fair_start second base now is_base_now second_fair Away away
    (sym (ap (λ s. is_installed s patch) (run-append setting start first second)) ∙ after) in
    record {
      turns_of_each = ran.left.rounds_left;
      one_each = ran.left.count;
      ran = λ number object is. ran.ran number object is ∙ ap (those_there object) ran.left.is;
    }

one_round_of : (setting : Setting) (patch : ℕ) (start : State) (cs : List Call) (ns : List ℕ) → length ns ≡ 1
    → ((number : ℕ) (object : ℕ × PatchObject) → slice_get (taking_part setting start patch) number ≡ Some object → kinds_for object.0 cs ≡ those_there object (rounds ns))
    → RanOneRound (taking_part setting start patch) cs
one_round_of setting patch start cs [] e ran = absurd (omega (arith, e))
one_round_of setting patch start cs (n ∷ []) e ran =
    record { turns_of_it = n; ran = λ number object is. ran number object is ∙ ap (those_there object) (append-nil (round n)) }
one_round_of setting patch start cs (n ∷ m ∷ ns) e ran = absurd (omega (arith, e))

-- one round of a patch
pub in_one_round : (setting : Setting) (patch : ℕ) (start : State) (first second third : List Event) → IsFairCompany setting patch start (first ++ second ++ third)
    → is_installed (run setting start first) patch ≡ false → is_installed (run setting start (first ++ second)) patch ≡ false → enablings second ≡ 1
    → RanOneRound (taking_part setting start patch) (callbacks_of_run setting (run setting start first) second)
in_one_round setting patch start first second third fair before after one =
    let ran = in_rounds setting patch start first second third fair before after in
    one_round_of setting patch start (callbacks_of_run setting (run setting start first) second) ran.turns_of_each (ran.one_each ∙ one) ran.ran
