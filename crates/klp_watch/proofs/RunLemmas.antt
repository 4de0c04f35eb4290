-- Items that are done one after another.
use Rattle.std.proofs.Common.{◌≡◌, List, [], ◌∷◌, ◌++◌, map, Some, None, refl, sym, ap, subst, ◌∙◌, append-nil, append_assoc}
use Rattle.std.specs.Prelude.{Ok, Err}
use Rattle.klp_types.specs.Setting.{Setting}
use Rattle.klp_model.specs.declared.event.Event.{Event}
use Rattle.klp_model.specs.declared.seen.Seen.{Seen}
use Rattle.klp_model.specs.declared.seen.Seen.TheVariants.{Event as Happens, Call as Calls, Return as Returns}
use Rattle.klp_model.specs.State.{State}
use Rattle.klp_model.specs.Run.{next, run}
use Rattle.klp_types.specs.declared.version.Version.{Version}
use Rattle.klp_model.specs.Observed.{Watched, events_of, opening, seen_next, seen_run, seen_from, AreHonest}
use Rattle.klp_manager_state.specs.Managed.{Managed, setting_of}
use Rattle.klp_manager_state.specs.Events.{after_event}
use Rattle.klp_core.specs.Events.{after_events}
use Rattle.klp_core.specs.Journaled.{Journaled}
use Rattle.klp_watch.specs.Inside.{AreInside}
use Rattle.klp_journal.specs.Journal.{Group}
use Rattle.klp_watch.specs.Watching.{Became, accepted_in, groups_in, IsTakenAs, state_by, AreTakenAs, AreWatched, moment_of, IsDone}

-- what stands of two lists
pub accepted_more : (setting : Setting) (state : State) (groups : List Group) (items : List Seen) (outcomes : List Became) (item : Seen) (outcome : Became)
    → AreTakenAs setting state groups items outcomes
    → accepted_in (items ++ item ∷ []) (outcomes ++ outcome ∷ []) ≡ accepted_in items outcomes ++ accepted_in (item ∷ []) (outcome ∷ [])
accepted_more setting state groups [] [] item outcome are = refl
accepted_more setting state groups [] (other ∷ outcomes) item outcome are = absurd are
accepted_more setting state groups (first ∷ items) [] item outcome are = absurd are
accepted_more setting state groups (first ∷ items) (None ∷ outcomes) item outcome are =
    ap (λ xs. first ∷ xs) (accepted_more setting (state_by setting state None) (groups ++ groups_in (None ∷ [])) items outcomes item outcome are.1)
accepted_more setting state groups (first ∷ items) (Some (Ok group) ∷ outcomes) item outcome are =
    ap (λ xs. first ∷ xs) (accepted_more setting (state_by setting state (Some (Ok group))) (groups ++ group ∷ []) items outcomes item outcome are.1)
accepted_more setting state groups (first ∷ items) (Some (Err refusal) ∷ outcomes) item outcome are =
    accepted_more setting (state_by setting state (Some (Err refusal))) (groups ++ []) items outcomes item outcome are.1

pub groups_more : (outcomes more : List Became) → groups_in (outcomes ++ more) ≡ groups_in outcomes ++ groups_in more
groups_more [] more = refl
groups_more (None ∷ outcomes) more = groups_more outcomes more
groups_more (Some (Ok group) ∷ outcomes) more = ap (λ gs. group ∷ gs) (groups_more outcomes more)
groups_more (Some (Err refusal) ∷ outcomes) more = groups_more outcomes more

pub events_more : (items more : List Seen) → events_of (items ++ more) ≡ events_of items ++ events_of more
events_more [] more = refl
events_more (Happens event ∷ items) more = ap (λ es. event ∷ es) (events_more items more)
events_more (Calls task site ∷ items) more = events_more items more
events_more (Returns task ∷ items) more = events_more items more

pub seen_more : (setting : Setting) (w : Watched) (items more : List Seen) → seen_run setting w (items ++ more) ≡ seen_run setting (seen_run setting w items) more
seen_more setting w [] more = refl
seen_more setting w (item ∷ items) more = seen_more setting (seen_next setting w item) items more

pub honest_more : (setting : Setting) (w : Watched) (items more : List Seen) → AreHonest setting w items → AreHonest setting (seen_run setting w items) more → AreHonest setting w (items ++ more)
honest_more setting w [] more are then = then
honest_more setting w (item ∷ items) more are then = (are.0, honest_more setting (seen_next setting w item) items more are.1 then)

-- the events of what stands are those of the groups
pub events_stand : (setting : Setting) (state : State) (groups : List Group) (items : List Seen) (outcomes : List Became)
    → AreTakenAs setting state groups items outcomes → events_of (accepted_in items outcomes) ≡ map (λ (g : Group). g.event) (groups_in outcomes)
events_stand setting state groups [] [] are = refl
events_stand setting state groups [] (outcome ∷ outcomes) are = absurd are
events_stand setting state groups (item ∷ items) [] are = absurd are
events_stand setting state groups (Happens event ∷ items) (None ∷ outcomes) are = absurd are.0
events_stand setting state groups (Happens event ∷ items) (Some (Ok group) ∷ outcomes) are =
    ap (λ e. e ∷ events_of (accepted_in items outcomes)) (sym are.0.1.event_is)
    ∙ ap (λ es. group.event ∷ es) (events_stand setting (state_by setting state (Some (Ok group))) (groups ++ group ∷ []) items outcomes are.1)
events_stand setting state groups (Happens event ∷ items) (Some (Err refusal) ∷ outcomes) are =
    events_stand setting (state_by setting state (Some (Err refusal))) (groups ++ []) items outcomes are.1
events_stand setting state groups (Calls task site ∷ items) (None ∷ outcomes) are = events_stand setting state (groups ++ []) items outcomes are.1
events_stand setting state groups (Calls task site ∷ items) (Some outcome ∷ outcomes) are = absurd are.0
events_stand setting state groups (Returns task ∷ items) (None ∷ outcomes) are = events_stand setting state (groups ++ []) items outcomes are.1
events_stand setting state groups (Returns task ∷ items) (Some outcome ∷ outcomes) are = absurd are.0

-- one more item behind others
pub taken_more : (setting : Setting) (state : State) (groups : List Group) (items : List Seen) (outcomes : List Became) (item : Seen) (outcome : Became)
    → AreTakenAs setting state groups items outcomes
    → IsTakenAs setting (run setting state (map (λ (g : Group). g.event) (groups_in outcomes))) (groups ++ groups_in outcomes) item outcome
    → AreTakenAs setting state groups (items ++ item ∷ []) (outcomes ++ outcome ∷ [])
taken_more setting state groups [] [] item outcome are is = (subst (λ gs. IsTakenAs setting state gs item outcome) (append-nil groups) is, tt)
taken_more setting state groups [] (other ∷ outcomes) item outcome are is = absurd are
taken_more setting state groups (first ∷ items) [] item outcome are is = absurd are
taken_more setting state groups (first ∷ items) (None ∷ outcomes) item outcome are is =
    (are.0, taken_more setting state (groups ++ []) items outcomes item outcome are.1 (subst (λ gs. IsTakenAs setting (run setting state (map (λ (g : Group). g.event) (groups_in outcomes))) (gs ++ groups_in outcomes) item outcome) (sym (append-nil groups)) is))
taken_more setting state groups (first ∷ items) (Some (Err refusal) ∷ outcomes) item outcome are is =
    (are.0, taken_more setting state (groups ++ []) items outcomes item outcome are.1 (subst (λ gs. IsTakenAs setting (run setting state (map (λ (g : Group). g.event) (groups_in outcomes))) (gs ++ groups_in outcomes) item outcome) (sym (append-nil groups)) is))
taken_more setting state groups (first ∷ items) (Some (Ok group) ∷ outcomes) item outcome are is = (
  are.0,
  taken_more setting (next setting state group.event) (groups ++ group ∷ []) items outcomes item outcome are.1
      (subst (λ gs. IsTakenAs setting (run setting (next setting state group.event) (map (λ (g : Group). g.event) (groups_in outcomes))) gs item outcome) (sym (append_assoc groups (group ∷ []) (groups_in outcomes))) is),
)

-- a single item is at most one event
abbrev pub AtMostOne : List Event → Type 0
AtMostOne [] = Unit {0}
AtMostOne (event ∷ []) = Unit {0}
AtMostOne (event ∷ other ∷ events) = ⊥

one_item : (item : Seen) (outcome : Became) → AtMostOne (events_of (accepted_in (item ∷ []) (outcome ∷ [])))
one_item item (Some (Err refusal)) = tt
one_item (Happens event) None = tt
one_item (Calls task site) None = tt
one_item (Returns task) None = tt
one_item (Happens event) (Some (Ok group)) = tt
one_item (Calls task site) (Some (Ok group)) = tt
one_item (Returns task) (Some (Ok group)) = tt

-- events go on where those before them ended
abbrev pub GoOn : Type 0
GoOn = (managed : Managed) (events : List Event) (event : Event) → after_event (after_events managed events) event ≡ after_events managed (events ++ event ∷ [])

pub left_more : GoOn → (first now after : Managed) (events more : List Event) → AtMostOne more → now ≡ after_events first events → after ≡ after_events now more → after ≡ after_events first (events ++ more)
left_more go first now after events [] few is then = then ∙ is ∙ ap (after_events first) (sym (append-nil events))
left_more go first now after events (event ∷ []) few is then = then ∙ sym (go now [] event) ∙ ap (λ m. after_event m event) is ∙ go first events event
left_more go first now after events (event ∷ other ∷ more) few is then = absurd few

-- the state is that of the events
abbrev pub OfEvents : Type 0
OfEvents = (setting : Setting) (w : Watched) (items : List Seen) → (seen_run setting w items).state ≡ run setting w.state (events_of items)

-- What was done so far, and one more item.
module _ (go : GoOn) (of : OfEvents) (first now after : Journaled) (items : List Seen) (item : Seen) (table : List (List Version))
    (watched : AreWatched first now items) (same : setting_of now.managed ≡ setting_of first.managed)
    (done : IsDone now after (seen_from (setting_of first.managed) first.managed.state (accepted_in items watched.outcomes)).stacks item table) where
  abbrev setting : Setting
  setting = setting_of first.managed

  abbrev start : State
  start = first.managed.state

  abbrev so_far : List Seen
  so_far = accepted_in items watched.outcomes

  abbrev one : List Seen
  one = accepted_in (item ∷ []) (done.outcome ∷ [])

  abbrev moment : Watched
  moment = seen_from setting start so_far

  abbrev outcomes : List Became
  outcomes = watched.outcomes ++ done.outcome ∷ []

  state_now : now.managed.state ≡ run setting start (events_of so_far)
  state_now = ap (λ (m : Managed). m.state) watched.left

  moment_now : moment_of now moment.stacks ≡ moment
  moment_now = ap (λ s. record { state = s; stacks = moment.stacks }) (state_now ∙ sym (of setting (opening start) so_far))

  stand : accepted_in (items ++ item ∷ []) outcomes ≡ so_far ++ one
  stand = accepted_more setting start first.groups items watched.outcomes item done.outcome watched.each

  taken : IsTakenAs setting (run setting start (map (λ (g : Group). g.event) (groups_in watched.outcomes))) (first.groups ++ groups_in watched.outcomes) item done.outcome
  taken =
      subst (λ gs. IsTakenAs setting (run setting start (map (λ (g : Group). g.event) (groups_in watched.outcomes))) gs item done.outcome) watched.groups
      (subst (λ s. IsTakenAs setting s now.groups item done.outcome)
      (state_now ∙ ap (run setting start) (events_stand setting start first.groups items watched.outcomes watched.each))
      (subst (λ k. IsTakenAs k now.managed.state now.groups item done.outcome) same done.taken))

  honest_one : AreHonest setting moment one
  honest_one = subst (λ w. AreHonest setting w one) moment_now (subst (λ k. AreHonest k (moment_of now moment.stacks) one) same done.honest)

  watched_more : AreWatched first after (items ++ item ∷ [])
  watched_more = record {
    outcomes = outcomes;
    each = taken_more setting start first.groups items watched.outcomes item done.outcome watched.each taken;
    honest = record {
      allowed = watched.honest.allowed;
      no_task = watched.honest.no_task;
      honest = subst (AreHonest setting (opening start)) (sym stand) (honest_more setting (opening start) so_far one watched.honest.honest honest_one);
    };
    groups = done.groups ∙ ap (λ gs. gs ++ groups_in (done.outcome ∷ [])) watched.groups ∙ append_assoc first.groups (groups_in watched.outcomes) (groups_in (done.outcome ∷ []))
        ∙ ap (λ gs. first.groups ++ gs) (sym (groups_more watched.outcomes (done.outcome ∷ [])));
    left = left_more go first.managed now.managed after.managed (events_of so_far) (events_of one) (one_item item done.outcome) watched.left done.left
        ∙ ap (after_events first.managed) (sym (ap events_of stand ∙ events_more so_far one));
    base = done.base ∙ watched.base;
  }

  inside_more : AreInside table (seen_from setting start (accepted_in (items ++ item ∷ []) outcomes)).stacks
  inside_more =
      subst (λ xs. AreInside table (seen_from setting start xs).stacks) (sym stand)
      (subst (λ (w : Watched). AreInside table w.stacks) (sym (seen_more setting (opening start) so_far one))
      (subst (λ w. AreInside table (seen_run setting w one).stacks) moment_now
      (subst (λ k. AreInside table (seen_run k (moment_of now moment.stacks) one).stacks) same done.inside)))

  pub more : (all : AreWatched first after (items ++ item ∷ [])) × AreInside table (seen_from setting start (accepted_in (items ++ item ∷ []) all.outcomes)).stacks
  unfolding watched_more
  more = (watched_more, inside_more)
