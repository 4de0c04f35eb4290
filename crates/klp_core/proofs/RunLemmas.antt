-- Events that are taken one after another.
use Rattle.std.proofs.Common.{◌≡◌, ℕ, ◌+◌, Bool, cond, List, [], ◌∷◌, ◌++◌, map, refl, sym, ap, subst, ◌∙◌, arith, append-nil, append_assoc}
use Rattle.std.specs.Prelude.{count_by, is_ok, is_err, Ok, Err}
use Rattle.std.proofs.lemmas.List.{map-append}
use Rattle.std.proofs.lemmas.List.Sums.{sum_by-append}
use Rattle.klp_types.specs.Setting.{Setting}
use Rattle.klp_types.specs.Callbacks.{Call}
use Rattle.klp_model.specs.declared.event.Event.{Event}
use Rattle.klp_model.specs.declared.event.Reply.{Reply}
use Rattle.klp_model.specs.declared.event.Refusal.{Refusal}
use Rattle.klp_model.specs.State.{State}
use Rattle.klp_model.specs.Run.{next, run, callbacks_of_run}
use Rattle.klp_model.specs.Step.{callbacks_of}
use Rattle.klp_catalog.specs.Catalog.{Catalog}
use Rattle.klp_catalog.specs.Runs.{after_runs, RunsAddUp}
use Rattle.klp_core.specs.Withdrawal.{GoesOn}
use Rattle.klp_journal.specs.Journal.{Group}
use Rattle.klp_manager_state.specs.Managed.{Managed, setting_of}
use Rattle.klp_manager_state.specs.Events.{after_event}
use Rattle.klp_core.specs.Events.{after_events}
use Rattle.klp_core.specs.Journaled.{Journaled}
use Rattle.klp_core.specs.Taking.{answer_in, IsLoggedAs, IsTaken, Outcome, groups_left, IsOutcome, AreOutcomes, AreTaken}

abbrev events_in : List Group → List Event
events_in groups = map (λ (g : Group). g.event) groups

-- one more event behind others

run_more : (setting : Setting) (state : State) (events : List Event) (event : Event) → run setting state (events ++ event ∷ []) ≡ next setting (run setting state events) event
run_more setting state [] event = refl
run_more setting state (first ∷ events) event = run_more setting (next setting state first) events event

calls_more : (setting : Setting) (state : State) (events : List Event) (event : Event)
    → callbacks_of_run setting state (events ++ event ∷ []) ≡ callbacks_of_run setting state events ++ callbacks_of setting (run setting state events) event
calls_more setting state [] event = append-nil (callbacks_of setting state event)
calls_more setting state (first ∷ events) event =
    ap (λ (cs : List Call). callbacks_of setting state first ++ cs) (calls_more setting (next setting state first) events event)
    ∙ sym (append_assoc (callbacks_of setting state first) (callbacks_of_run setting (next setting state first) events) (callbacks_of setting (run setting (next setting state first) events) event))

pub after_more : RunsAddUp → (managed : Managed) (events : List Event) (event : Event) → after_event (after_events managed events) event ≡ after_events managed (events ++ event ∷ [])
after_more adds managed events event =
    let setting = setting_of managed in
    let state = run setting managed.state events in
    let calls = callbacks_of_run setting managed.state events in
    let more = callbacks_of setting state event in
    ap (λ (k : Catalog). record managed { catalog = k; state = next setting state event })
    (sym (adds.more managed.catalog calls more) ∙ ap (after_runs managed.catalog) (sym (calls_more setting managed.state events event)))
    ∙ ap (λ (s : State). record managed { catalog = after_runs managed.catalog (callbacks_of_run setting managed.state (events ++ event ∷ [])); state = s }) (sym (run_more setting managed.state events event))

left_more : (outcomes : List Outcome) (outcome : Outcome) → groups_left (outcomes ++ outcome ∷ []) ≡ groups_left outcomes ++ groups_left (outcome ∷ [])
left_more [] outcome = refl
left_more (Ok group ∷ outcomes) outcome = ap (λ gs. group ∷ gs) (left_more outcomes outcome)
left_more (Err refusal ∷ outcomes) outcome = left_more outcomes outcome

one_outcome : (setting : Setting) (state : State) (groups : List Group) (event : Event) (outcome : Outcome) → IsOutcome setting state groups event outcome
    → AreOutcomes setting state groups (event ∷ []) (outcome ∷ [])
one_outcome setting state groups event (Ok group) is = (is, tt)
one_outcome setting state groups event (Err refusal) is = (is, tt)

outcomes_more : (setting : Setting) (state : State) (groups : List Group) (events : List Event) (outcomes : List Outcome) (event : Event) (outcome : Outcome)
    → AreOutcomes setting state groups events outcomes
    → IsOutcome setting (run setting state (events_in (groups_left outcomes))) (groups ++ groups_left outcomes) event outcome
    → AreOutcomes setting state groups (events ++ event ∷ []) (outcomes ++ outcome ∷ [])
outcomes_more setting state groups [] [] event outcome are is =
    one_outcome setting state groups event outcome (subst (λ gs. IsOutcome setting state gs event outcome) (append-nil groups) is)
outcomes_more setting state groups [] (other ∷ outcomes) event outcome are is = absurd are
outcomes_more setting state groups (first ∷ events) [] event outcome are is = absurd are
outcomes_more setting state groups (first ∷ events) (Ok group ∷ outcomes) event outcome are is = (
  are.0,
  outcomes_more setting (next setting state group.event) (groups ++ group ∷ []) events outcomes event outcome are.1
      (subst (λ gs. IsOutcome setting (run setting (next setting state group.event) (events_in (groups_left outcomes))) gs event outcome)
      (sym (append_assoc groups (group ∷ []) (groups_left outcomes))) is),
)
outcomes_more setting state groups (first ∷ events) (Err refusal ∷ outcomes) event outcome are is =
    (are.0, outcomes_more setting state groups events outcomes event outcome are.1 is)

count_more : (test : Outcome → Bool) (outcomes : List Outcome) (outcome : Outcome) → count_by test (outcomes ++ outcome ∷ []) ≡ count_by test outcomes + cond (test outcome) 1 0
count_more test outcomes outcome =
    let both = sum_by-append (λ o. cond (test o) 1 0) outcomes (outcome ∷ []) in
    let one : count_by test (outcome ∷ []) ≡ cond (test outcome) 1 0 = omega arith in
    both ∙ ap (λ n. count_by test outcomes + n) one

-- where nothing was taken
pub none_taken : (first : Journaled) → AreTaken first first [] (0, 0)
none_taken first = record { outcomes = []; each = tt; groups = sym (append-nil first.groups); left = refl; base = refl; accepts = refl; refuses = refl }

pub one_accepted : RunsAddUp → (first now after : Journaled) (events : List Event) (event : Event) (reply : Reply) (accepted refused : ℕ)
    → AreTaken first now events (accepted, refused) → setting_of now.managed ≡ setting_of first.managed → IsTaken now after event (Ok reply)
    → AreTaken first after (events ++ event ∷ []) (accepted + 1, refused)
one_accepted adds first now after events event reply accepted refused so_far same taken =
    let setting = setting_of first.managed in
    let appends = taken.accepted in
    let group = appends.group in
    let outcome : Outcome = Ok group in
    let older = groups_left so_far.outcomes in
    let state = ap (λ (m : Managed). m.state) so_far.left in
    let answered : answer_in setting (run setting first.managed.state (events_in older)) (first.groups ++ older) event ≡ Ok group.reply =
    ap (λ s. answer_in setting s (first.groups ++ older) event) (sym state)
    ∙ ap (λ gs. answer_in setting now.managed.state gs event) (sym so_far.groups)
    ∙ ap (λ (s : Setting). answer_in s now.managed.state now.groups event) (sym same)
    ∙ sym taken.answered ∙ ap Ok (sym appends.logged.reply_is) in
    let logged =
    subst (λ s. IsLoggedAs setting s group event group.reply) state
    (subst (λ (s : Setting). IsLoggedAs s now.managed.state group event group.reply) same
    (subst (IsLoggedAs (setting_of now.managed) now.managed.state group event) (sym appends.logged.reply_is) appends.logged)) in
    let left = left_more so_far.outcomes outcome in
    record {
      outcomes = so_far.outcomes ++ outcome ∷ [];
      each = outcomes_more setting first.managed.state first.groups events so_far.outcomes event outcome so_far.each (answered, logged);
      groups = appends.groups ∙ ap (λ gs. gs ++ group ∷ []) so_far.groups ∙ append_assoc first.groups older (group ∷ []) ∙ ap (λ gs. first.groups ++ gs) (sym left);
      left = appends.left ∙ ap (λ m. after_event m event) so_far.left ∙ after_more adds first.managed (events_in older) event
          ∙ ap (λ e. after_events first.managed (events_in older ++ e ∷ [])) (sym appends.logged.event_is)
          ∙ ap (after_events first.managed) (sym (map-append (λ (g : Group). g.event) older (group ∷ [])))
          ∙ ap (λ gs. after_events first.managed (events_in gs)) (sym left);
      base = appends.base ∙ so_far.base;
      accepts = let n = so_far.accepts in let more = count_more is_ok so_far.outcomes outcome in omega (arith, n, more);
      refuses = let n = so_far.refuses in let more = count_more is_err so_far.outcomes outcome in omega (arith, n, more);
    }

pub one_refused : (first now after : Journaled) (events : List Event) (event : Event) (refusal : Refusal) (accepted refused : ℕ)
    → AreTaken first now events (accepted, refused) → setting_of now.managed ≡ setting_of first.managed → IsTaken now after event (Err refusal)
    → AreTaken first after (events ++ event ∷ []) (accepted, refused + 1)
one_refused first now after events event refusal accepted refused so_far same taken =
    let setting = setting_of first.managed in
    let outcome : Outcome = Err refusal in
    let older = groups_left so_far.outcomes in
    let state = ap (λ (m : Managed). m.state) so_far.left in
    let answered : answer_in setting (run setting first.managed.state (events_in older)) (first.groups ++ older) event ≡ Err refusal =
    ap (λ s. answer_in setting s (first.groups ++ older) event) (sym state)
    ∙ ap (λ gs. answer_in setting now.managed.state gs event) (sym so_far.groups)
    ∙ ap (λ (s : Setting). answer_in s now.managed.state now.groups event) (sym same)
    ∙ sym taken.answered in
    let left = left_more so_far.outcomes outcome ∙ append-nil older in
    record {
      outcomes = so_far.outcomes ++ outcome ∷ [];
      each = outcomes_more setting first.managed.state first.groups events so_far.outcomes event outcome so_far.each answered;
      groups = ap (λ (m : Journaled). m.groups) taken.refused ∙ so_far.groups ∙ ap (λ gs. first.groups ++ gs) (sym left);
      left = ap (λ (m : Journaled). m.managed) taken.refused ∙ so_far.left ∙ ap (λ gs. after_events first.managed (events_in gs)) (sym left);
      base = ap (λ (m : Journaled). m.base) taken.refused ∙ so_far.base;
      accepts = let n = so_far.accepts in let more = count_more is_ok so_far.outcomes outcome in omega (arith, n, more);
      refuses = let n = so_far.refuses in let more = count_more is_err so_far.outcomes outcome in omega (arith, n, more);
    }

-- the same numbers
pub recounted : (first now : Journaled) (events : List Event) (accepted other refused another : ℕ) → other ≡ accepted → another ≡ refused
    → AreTaken first now events (accepted, refused) → AreTaken first now events (other, another)
recounted first now events accepted other refused another is are taken = rw (is, are) taken

-- what was accepted comes behind what stood before
pub goes_on : (first now : Journaled) (events : List Event) (counts : ℕ × ℕ) → AreTaken first now events counts → GoesOn first now
goes_on first now events counts taken = record { more = groups_left taken.outcomes; groups = taken.groups; base = taken.base }
