-- A whole trace, item by item: with room in the journal the rules alone answer an event.
use Rattle.std.proofs.Common.{◌≡◌, Bool, true, false, List, [], ◌∷◌, ◌++◌, Option, Some, None, refl, sym, ap, subst, ◌∙◌}
use Rattle.std.specs.Prelude.{is_none, is_ok, if◌then◌else◌, Result, Ok, Err}
use Rattle.klp_types.specs.declared.version.Version.{Version}
use Rattle.klp_types.specs.Callbacks.{Call}
use Rattle.klp_types.specs.FirstOf.{unless}
use Rattle.klp_types.specs.Setting.{Setting}
use Rattle.klp_model.specs.declared.event.Event.{Event}
use Rattle.klp_model.specs.declared.event.Reply.{Reply}
use Rattle.klp_model.specs.declared.event.Refusal.{Refusal}
use Rattle.klp_model.specs.declared.seen.Seen.{Seen}
use Rattle.klp_model.specs.declared.seen.Seen.TheVariants.{Event as Happens, Call as Calls, Return as Returns}
use Rattle.klp_model.specs.State.{State}
use Rattle.klp_model.specs.EventCalls.{calls}
use Rattle.klp_model.specs.Refusals.{refusal, accepts}
use Rattle.klp_model.specs.Step.{accepted, calls_unless}
use Rattle.klp_model.specs.Run.{answer, answer_of, state_after}
use Rattle.klp_model.specs.Observed.{Stacks, Watched, begun, events_of, opening, seen_next, seen_run, seen_from, HasNoTask, AreHonest, IsHonestItem}
use Rattle.klp_journal.specs.Journal.{Group, has_room}
use Rattle.klp_catalog.specs.Runs.{after_runs}
use Rattle.klp_manager_state.specs.Managed.{Managed, setting_of}
use Rattle.klp_core.specs.Events.{after_events}
use Rattle.klp_core.specs.Journaled.{Journaled, IsWellFormed}
use Rattle.klp_core.specs.Taking.{unless_full, answer_in}
use Rattle.klp_watch.specs.declared.cause.Cause.{Cause}
use Rattle.klp_watch.specs.declared.cause.Cause.TheVariants.{NoCall, NoReturn, Deep}
use Rattle.klp_watch.specs.Inside.{AreInside}
use Rattle.klp_watch.specs.Watching.{Became, accepted_in, moment_of, IsTakenAs, IsCause, IsDone, once_taken_back}
use Rattle.klp_watch.specs.Whole.{LeadHonestly, once_reported}
use Rattle.klp_watch.proofs.RunLemmas.{GoOn, OfEvents, AtMostOne, events_more, seen_more, honest_more, left_more}
use Rattle.klp_watch.proofs.WatchedLemmas.{StaysAllowed, allowed_now}

-- the state of a manager, where tasks are inside of this
abbrev at : Managed → Stacks → Watched
at managed stacks = record { state = managed.state; stacks = stacks }

-- one item was done where tasks were inside of this, as the rules alone have it
pub record IsNext (before after : Managed) (stacks : Stacks) (item : Seen) (table : List (List Version)) : Type 0 where
  pub honest : IsHonestItem (setting_of before) (at before stacks) item
  pub left : after ≡ after_events before (events_of (item ∷ []))
  pub inside : AreInside table (seen_next (setting_of before) (at before stacks) item).stacks

with_room : (result : Result Reply Refusal) → unless_full true result ≡ result
with_room (Ok reply) = refl
with_room (Err reason) = refl

pub answered : (setting : Setting) (state : State) (groups : List Group) (event : Event) → has_room groups ≡ true
    → answer_in setting state groups event ≡ answer setting state event
answered setting state groups event room = ap (λ (b : Bool). unless_full b (answer setting state event)) room ∙ with_room (answer setting state event)

is_refused : (refused : Option Refusal) (outcome : Reply × State) (reason : Refusal) → answer_of (unless refused outcome) ≡ Err reason → is_none refused ≡ false
is_refused None outcome reason is = let no : ⊥ = cc in absurd no
is_refused (Some refusal) outcome reason is = refl

-- a refused event leaves everything
stays : (managed : Managed) (refused : Option Refusal) (outcome : Reply × State) (runs : List Call) → is_none refused ≡ false
    → (record managed { catalog = after_runs managed.catalog (calls_unless refused runs ++ []); state = state_after managed.state (unless refused outcome) }) ≡ managed
stays managed None outcome runs is = let no : ⊥ = cc in absurd no
stays managed (Some refusal) outcome runs is = refl

module _ (before after : Journaled) (stacks : Stacks) (table : List (List Version)) (room : has_room before.groups ≡ true) where
  abbrev own : Setting
  own = setting_of before.managed

  refused_next : (event : Event) → accepts own before.managed.state event ≡ false → after.managed ≡ before.managed → AreInside table stacks
      → IsNext before.managed after.managed stacks (Happens event) table
  refused_next event is left are = record {
    honest = λ yes. let no : ⊥ = cc in absurd no;
    left = left ∙ sym (stays before.managed (refusal own before.managed.state event) (accepted own before.managed.state event) (calls own before.managed.state event) is);
    inside = subst (λ (b : Bool). AreInside table (if b then begun event stacks else stacks)) (sym is) are;
  }

  next_by : (item : Seen) (outcome : Became) → IsTakenAs own before.managed.state before.groups item outcome
      → AreHonest own (moment_of before stacks) (accepted_in (item ∷ []) (outcome ∷ []))
      → after.managed ≡ after_events before.managed (events_of (accepted_in (item ∷ []) (outcome ∷ [])))
      → AreInside table (seen_run own (moment_of before stacks) (accepted_in (item ∷ []) (outcome ∷ []))).stacks
      → IsNext before.managed after.managed stacks item table
  next_by (Happens event) None taken honest left are = absurd taken
  next_by (Happens event) (Some (Ok group)) taken honest left are = record { honest = honest.0; left = left; inside = are }
  next_by (Happens event) (Some (Err reason)) taken honest left are =
      let state = before.managed.state in
      refused_next event
      (is_refused (refusal own state event) (accepted own state event) reason (sym (answered own state before.groups event room) ∙ taken)) left are
  next_by (Calls task site) None taken honest left are = record { honest = honest.0; left = left; inside = are }
  next_by (Calls task site) (Some outcome) taken honest left are = absurd taken
  next_by (Returns task) None taken honest left are = record { honest = honest.0; left = left; inside = are }
  next_by (Returns task) (Some outcome) taken honest left are = absurd taken

  pub next_seen : (item : Seen) → IsDone before after stacks item table → IsNext before.managed after.managed stacks item table
  next_seen item done = next_by item done.outcome done.taken done.honest done.left done.inside

-- a cause where the journal has room is one where it is empty
pub cause_by_rules : (setting : Setting) (w : Watched) (groups : List Group) (item : Seen) (cause : Cause) → has_room groups ≡ true
    → IsCause setting w groups item cause → IsCause setting w [] item cause
cause_by_rules setting w groups (Happens event) cause room is =
    (subst (λ (r : Result Reply Refusal). is_ok r ≡ true) (answered setting w.state groups event room ∙ sym (answered setting w.state [] event refl)) is.0, is.1)
cause_by_rules setting w groups (Calls task site) NoCall room is = is
cause_by_rules setting w groups (Calls task site) Deep room is = is
cause_by_rules setting w groups (Calls task site) cause room is = absurd is
cause_by_rules setting w groups (Returns task) NoReturn room is = is
cause_by_rules setting w groups (Returns task) cause room is = absurd is

pub reported_left : (before after : Journaled) (item : Seen) → after ≡ once_taken_back before item → after.managed ≡ once_reported before.managed item
reported_left before after (Happens event) is = ap (λ (m : Journaled). m.managed) is
reported_left before after (Calls task site) is = ap (λ (m : Journaled). m.managed) is
reported_left before after (Returns task) is = ap (λ (m : Journaled). m.managed) is

-- a single item is at most one event
one_item : (item : Seen) → AtMostOne (events_of (item ∷ []))
one_item (Happens event) = tt
one_item (Calls task site) = tt
one_item (Returns task) = tt

-- these items were done, and tasks are inside of what the table has, if no task was there at first
abbrev pub SeenTo : Managed → Managed → List (List Version) → List Seen → Type 0
SeenTo first now table items = HasNoTask first.state → LeadHonestly first now items × AreInside table (seen_from (setting_of first) first.state items).stacks

pub nothing_seen : StaysAllowed → (first : Journaled) (table : List (List Version)) → IsWellFormed first → AreInside table (λ n. []) → SeenTo first.managed first.managed table []
nothing_seen stays first table well_formed none nobody =
    (record { honest = record { allowed = allowed_now stays first well_formed; no_task = nobody; honest = tt }; left = refl }, none)

module _ (of : OfEvents) (first now : Managed) (items : List Seen) (lead : LeadHonestly first now items) (same : setting_of now ≡ setting_of first) where
  abbrev moment : Watched
  moment = seen_from (setting_of first) first.state items

  -- the state now is that of the run
  pub moment_now : at now moment.stacks ≡ moment
  moment_now = ap (λ (s : State). record { state = s; stacks = moment.stacks })
      (ap (λ (m : Managed). m.state) lead.left ∙ sym (of (setting_of first) (opening first.state) items))

  pub one_more_seen : GoOn → (after : Managed) (item : Seen) (table : List (List Version)) → IsNext now after moment.stacks item table
      → LeadHonestly first after (items ++ item ∷ []) × AreInside table (seen_from (setting_of first) first.state (items ++ item ∷ [])).stacks
  one_more_seen go after item table next = (
    record {
      honest = record {
        allowed = lead.honest.allowed;
        no_task = lead.honest.no_task;
        honest = honest_more (setting_of first) (opening first.state) items (item ∷ []) lead.honest.honest (
          subst (λ (w : Watched). IsHonestItem (setting_of first) w item) moment_now
              (subst (λ (k : Setting). IsHonestItem k (at now moment.stacks) item) same next.honest),
          tt,
        );
      };
      left = left_more go first now after (events_of items) (events_of (item ∷ [])) (one_item item) lead.left next.left
          ∙ ap (after_events first) (sym (events_more items (item ∷ [])));
    },
    subst (λ (w : Watched). AreInside table w.stacks) (sym (seen_more (setting_of first) (opening first.state) items (item ∷ [])))
        (subst (λ (w : Watched). AreInside table (seen_next (setting_of first) w item).stacks) moment_now
        (subst (λ (k : Setting). AreInside table (seen_next k (at now moment.stacks) item).stacks) same next.inside)),
  )

module _ (first now ready after : Journaled) (table : List (List Version)) (same : setting_of now.managed ≡ setting_of first.managed)
    (made : ready.managed ≡ now.managed) (room : has_room ready.groups ≡ true) where
  -- the same by a manager with room
  ready_seen : (items : List Seen) → SeenTo first.managed now.managed table items → SeenTo first.managed ready.managed table items
  ready_seen items so_far = subst (λ (m : Managed). SeenTo first.managed m table items) (sym made) so_far

  ready_same : setting_of ready.managed ≡ setting_of first.managed
  ready_same = ap setting_of made ∙ same

  pub seen_next_to : GoOn → OfEvents → (items : List Seen) (item : Seen) (new : List (List Version)) → SeenTo first.managed now.managed table items
      → ((stacks : Stacks) → AreInside table stacks → IsDone ready after stacks item new) → SeenTo first.managed after.managed new (items ++ item ∷ [])
  seen_next_to go of items item new so_far does nobody =
      let before = ready_seen items so_far nobody in
      let stacks = (seen_from (setting_of first.managed) first.managed.state items).stacks in
      one_more_seen of first.managed ready.managed items before.0 ready_same go after.managed item new
      (next_seen ready after stacks new room item (does stacks before.1))
