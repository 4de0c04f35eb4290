-- Groups that are appended and taken back.
use Rattle.std.proofs.Common.{◌≡◌, ℕ, ◌-◌, ◌<◌, ◌≤◌, true, false, List, [], ◌∷◌, ◌++◌, length, take, Option, Some, None, refl, sym, ap, subst, ◌∙◌, arith}
use Rattle.std.specs.Prelude.{unwrap_or, Result, Ok, Err, IfOk}
use Rattle.std.proofs.lemmas.List.{length_push, take_at}
use Rattle.std.proofs.lemmas.List.Elements.{All-cons, All-nil}
use Rattle.std.specs.List.{All}
use Rattle.klp_types.specs.declared.limits.TheConstants.{MAX_RECORDS}
use Rattle.klp_types.specs.declared.record.Record.{Record}
use Rattle.klp_types.specs.FirstOf.{unless}
use Rattle.klp_types.specs.Image.{Image}
use Rattle.klp_types.specs.Records.{RecordList}
use Rattle.klp_types.specs.Setting.{Setting}
use Rattle.klp_model.specs.declared.event.Event.{Event}
use Rattle.klp_model.specs.declared.event.Reply.{Reply}
use Rattle.klp_model.specs.declared.event.Refusal.{Refusal}
use Rattle.klp_model.specs.declared.event.Refusal.TheVariants.{JournalFull}
use Rattle.klp_model.specs.Allowed.{Allowed}
use Rattle.klp_model.specs.Entries.{entries_of}
use Rattle.klp_model.specs.Stated.{IsStated}
use Rattle.klp_model.specs.Legal.{IsLegal, state_after_history}
use Rattle.klp_model.specs.Run.{answer, answer_of}
use Rattle.klp_model.specs.State.{State}
use Rattle.klp_modules.specs.Names.{ModuleTable, names_of}
use Rattle.klp_text.specs.TextImage.{IsWithinLimits, site_count}
use Rattle.klp_catalog.specs.Catalog.{Catalog}
use Rattle.klp_journal.specs.Journal.{Accepted, Group, groups_of, has_room, Keeps}
use Rattle.klp_journal.specs.Journal as records
use Rattle.klp_manager_state.specs.declared.state.ManagerState.{ManagerState}
use Rattle.klp_manager_state.specs.Events.{TakesEvent, after_event}
use Rattle.klp_manager_state.specs.Invariant.{Invariant}
use Rattle.klp_manager_state.specs.Managed.{Managed, setting_of, managed_of, setting_in}
use Rattle.klp_manager_state.specs.Rows.{Rows, Before, rows_in, rows_before, rows_now, undone, are_due, have_effects}
use Rattle.klp_manager_state.proofs.RowLemmas.{given_back, effective_back}
use Rattle.klp_core.proofs.EffectLemmas.{logged_effective}
use Rattle.klp_core.specs.Journaled.{Journaled, state_in_rows, rows_before_all, journaled_of, groups_in, AreInStep, AreKept, is_of_a_task, IsSmall, IsStepOf, AreSteps, IsSound, history_in, IsWellFormed}
use Rattle.klp_types.specs.Callbacks.{Call}
use Rattle.klp_core.specs.Events.{AreCounted}
use Rattle.klp_core.specs.Rewinding.{IsRewound}
use Rattle.klp_core.specs.Taking.{unless_full, answer_in, Appends, IsTaken}

pub kept_in : (state : ManagerState) (catalog : Catalog) → Invariant state catalog → AreKept (setting_in state catalog) (rows_in state)
kept_in state catalog holds = record { image = refl; allowed = holds.allowed; stated = holds.stated; entries = holds.entries }

-- a group is appended, or taken back

pub before_more : (before after : Rows) (groups : List Group) (group : Group) → undone after group.rows ≡ before
    → rows_before_all after (groups ++ group ∷ []) ≡ rows_before_all before groups
before_more before after [] group undo = undo
before_more before after (first ∷ newer) group undo = ap (λ r. undone r first.rows) (before_more before after newer group undo)

pub step_appended : (setting : Setting) (before after : Rows) (groups : List Group) (group : Group) → undone after group.rows ≡ before → AreSteps setting before groups
    → IsStepOf setting before after group → AreKept setting after → AreSteps setting after (groups ++ group ∷ [])
step_appended setting before after [] group undo steps step kept = (subst (λ r. IsStepOf setting r after group) (sym undo) step, kept)
step_appended setting before after (first ∷ newer) group undo steps step kept = (
  subst (λ r. IsStepOf setting (undone r first.rows) r first) (sym (before_more before after newer group undo)) steps.0,
  step_appended setting before after newer group undo steps.1 step kept,
)

pub step_taken_back : (setting : Setting) (after : Rows) (groups : List Group) (group : Group) → AreSteps setting after (groups ++ group ∷ [])
    → AreSteps setting (undone after group.rows) groups
step_taken_back setting after [] group steps = steps.0.kept
step_taken_back setting after (first ∷ newer) group steps = (
  subst (λ r. IsStepOf setting (undone r first.rows) r first) (before_more (undone after group.rows) after newer group refl) steps.0,
  step_taken_back setting after newer group steps.1,
)

newest_effective : (setting : Setting) (after : Rows) (groups : List Group) (group : Group) → AreSteps setting after (groups ++ group ∷ []) → have_effects after group.rows ≡ true
newest_effective setting after [] group steps = steps.0.effective
newest_effective setting after (first ∷ newer) group steps = newest_effective setting after newer group steps.1

newest_small : (setting : Setting) (after : Rows) (groups : List Group) (group : Group) → AreSteps setting after (groups ++ group ∷ []) → IsSmall group
newest_small setting after [] group steps = steps.0.small
newest_small setting after (first ∷ newer) group steps = newest_small setting after newer group steps.1

-- the newest group has few records
pub sound_few : (state : ManagerState) (catalog : Catalog) (groups older : List Group) (newest : Group) → IsSound state catalog groups
    → groups ≡ older ++ newest ∷ [] → length newest.rows ≤ state.log.room
sound_few state catalog groups older newest sound parted =
    let small = newest_small (setting_in state catalog) (rows_in state) older newest (subst (AreSteps (setting_in state catalog) (rows_in state)) parted sound.steps) in
    subst (λ n. length newest.rows ≤ n) (sym sound.holds.room) small.few

-- the records of the newest group can be put back
pub sound_due : (state : ManagerState) (catalog : Catalog) (groups older : List Group) (newest : Group) (rows : List Record) → IsSound state catalog groups
    → groups ≡ older ++ newest ∷ [] → rows ≡ newest.rows → are_due (rows_in state) rows ≡ true
sound_due state catalog groups older newest rows sound parted is =
    ap (are_due (rows_in state)) is
    ∙ effective_back (rows_in state) newest.rows (newest_effective (setting_in state catalog) (rows_in state) older newest (subst (AreSteps (setting_in state catalog) (rows_in state)) parted sound.steps))

-- the others are all but the last
pub others_are : (groups older : List Group) (newest : Group) → groups ≡ older ++ newest ∷ [] → older ≡ take (length groups - 1) groups
others_are groups older newest is =
    let long = ap length is ∙ length_push older newest in
    sym (take_at older (newest ∷ []) (length groups - 1) (omega (arith, long))) ∙ ap (take (length groups - 1)) (sym is)

-- the groups are what happened since the base

base_kept : (setting : Setting) (rows : Rows) (groups : List Group) → AreSteps setting rows groups → AreKept setting (rows_before_all rows groups)
base_kept setting rows [] steps = steps
base_kept setting rows (first ∷ newer) steps = steps.0.kept

are_legal : (setting : Setting) (rows : Rows) (groups : List Group) → AreSteps setting rows groups
    → IsLegal setting (state_in_rows (rows_before_all rows groups)) (history_in groups)
are_legal setting rows [] steps = tt
are_legal setting rows (first ∷ newer) steps =
    (steps.0.answered, subst (λ s. IsLegal setting s (history_in newer)) (sym steps.0.left) (are_legal setting rows newer steps.1))

lead_on : (setting : Setting) (rows : Rows) (groups : List Group) → AreSteps setting rows groups
    → state_in_rows rows ≡ state_after_history setting (state_in_rows (rows_before_all rows groups)) (history_in groups)
lead_on setting rows [] steps = refl
lead_on setting rows (first ∷ newer) steps =
    lead_on setting rows newer steps.1 ∙ ap (λ s. state_after_history setting s (history_in newer)) (sym steps.0.left)

are_small : (setting : Setting) (rows : Rows) (groups : List Group) → AreSteps setting rows groups → All IsSmall groups
are_small setting rows [] steps = All-nil IsSmall
are_small setting rows (first ∷ newer) steps = All-cons IsSmall first newer steps.0.small (are_small setting rows newer steps.1)

pub sound_stands : (state : ManagerState) (catalog : Catalog) (groups : List Group) → IsSound state catalog groups → IsWellFormed (journaled_of state catalog groups)
sound_stands state catalog groups sound =
    let setting = setting_in state catalog in
    record {
      allowed = (base_kept setting (rows_in state) groups sound.steps).allowed;
      legal = are_legal setting (rows_in state) groups sound.steps;
      state = lead_on setting (rows_in state) groups sound.steps;
      small = are_small setting (rows_in state) groups sound.steps;
    }

-- an event was taken

same_setting : (before after : Managed) (event : Event) → after ≡ after_event before event → setting_of after ≡ setting_of before
same_setting before after event left = ap setting_of left

is_step : (before after : ManagerState) (catalog now : Catalog) (event : Event) (reply : Reply) (rows : List Record) → Invariant before catalog → TakesEvent before after catalog now event (Ok reply)
    → have_effects (rows_in after) rows ≡ true → length rows ≤ MAX_RECORDS → (is_of_a_task event ≡ true → length rows ≡ 1)
    → IsStepOf (setting_in before catalog) (rows_in before) (rows_in after) (record { event = event; reply = reply; rows = rows })
is_step before after catalog now event reply rows holds taken effective few one = record {
  kept = kept_in before catalog holds;
  answered = sym taken.takes.answered;
  left = sym (ap (λ (m : Managed). m.state) taken.takes.left);
  effective = effective;
  small = record { few = few; one = one };
}

pub appended_sound : (before after : ManagerState) (catalog now : Catalog) (groups : List Group) (event : Event) (reply : Reply) → IsSound before catalog groups
    → TakesEvent before after catalog now event (Ok reply) → rows_before after ≡ rows_now before → length after.log.logged ≤ MAX_RECORDS
    → (is_of_a_task event ≡ true → length after.log.logged ≡ 1)
    → IsSound after now (groups ++ record { event = event; reply = reply; rows = after.log.logged } ∷ [])
appended_sound before after catalog now groups event reply sound taken logged few one =
    let back = given_back (rows_in after) (rows_in before) after.log.logged (ap (λ (b : Before). b.rows) logged) in
    let same = same_setting (managed_of before catalog) (managed_of after now) event taken.takes.left in
    record {
      holds = taken.kept;
      steps = subst (λ s. AreSteps s (rows_in after) (groups ++ record { event = event; reply = reply; rows = after.log.logged } ∷ [])) (sym same)
          (step_appended (setting_in before catalog) (rows_in before) (rows_in after) groups _ back.0 sound.steps
          (is_step before after catalog now event reply after.log.logged sound.holds taken back.1 few one)
          (subst (λ s. AreKept s (rows_in after)) same (kept_in after now taken.kept)));
    }

pub appended : (before after : ManagerState) (catalog now : Catalog) (groups : List Group) (event : Event) (reply : Reply)
    → Invariant before catalog → length after.sites.stacks ≡ site_count after.sites.image
    → TakesEvent before after catalog now event (Ok reply) → rows_before after ≡ rows_now before → length after.log.logged ≤ MAX_RECORDS
    → (is_of_a_task event ≡ true → length after.log.logged ≡ 1)
    → Appends (journaled_of before catalog groups) (journaled_of after now (groups ++ record { event = event; reply = reply; rows = after.log.logged } ∷ [])) event reply
appended before after catalog now groups event reply holds count taken logged few one = record {
  group = record { event = event; reply = reply; rows = after.log.logged };
  logged = record {
    event_is = refl;
    reply_is = refl;
    small = record { few = few; one = one };
    effective = logged_effective before after catalog now event reply holds count taken (ap (λ (b : Before). b.rows) logged);
  };
  groups = refl;
  left = taken.takes.left;
  base = ap state_in_rows (before_more (rows_in before) (rows_in after) groups (record { event = event; reply = reply; rows = after.log.logged }) (given_back (rows_in after) (rows_in before) after.log.logged (ap (λ (b : Before). b.rows) logged)).0);
}

-- a full journal refuses what nothing else does
pub full_refuses : (refusal : Option Refusal) (outcome : Reply × State) → Err (unwrap_or refusal JournalFull) ≡ unless_full false (answer_of (unless refusal outcome))
full_refuses None outcome = refl
full_refuses (Some refusal) outcome = refl

pub no_room : (setting : Setting) (state : State) (groups : List Group) (event : Event) (refusal : Option Refusal) (outcome : Reply × State) → has_room groups ≡ false
    → answer setting state event ≡ answer_of (unless refusal outcome) → Err (unwrap_or refusal JournalFull) ≡ unless_full (has_room groups) (answer setting state event)
no_room setting state groups event refusal outcome full is = full_refuses refusal outcome ∙ rw (full, is) refl

-- the newest group is taken back

kept_now : (setting : Setting) (rows : Rows) (groups : List Group) → AreSteps setting rows groups → AreKept setting rows
kept_now setting rows [] steps = steps
kept_now setting rows (first ∷ newer) steps = kept_now setting rows newer steps.1

invariant_again : (before after : ManagerState) (catalog : Catalog) → Invariant before catalog → AreKept (setting_in before catalog) (rows_in after)
    → after.modules ≡ record before.modules { loaded = after.sites.loaded } → after.log.room ≡ before.log.room → Invariant after catalog
invariant_again before after catalog holds kept modules log =
    let same : setting_in after catalog ≡ setting_in before catalog = ap (λ (i : Image). setting_of (record (managed_of before catalog) { image = i })) kept.image in
    record {
      allowed = subst (λ s. Allowed s (state_in_rows (rows_in after))) (sym same) kept.allowed;
      stated = subst (λ s. IsStated s (state_in_rows (rows_in after))) (sym same) kept.stated;
      limits = subst (λ (i : Image). IsWithinLimits i.objects) (sym kept.image) holds.limits;
      modules_are = modules ∙ ap (λ (m : ModuleTable). record m { loaded = after.sites.loaded }) holds.modules_are
          ∙ ap (λ (i : Image). record { names = names_of i.objects; loaded = after.sites.loaded }) (sym kept.image);
      catalog_names = holds.catalog_names ∙ ap (λ (i : Image). names_of i.objects) (sym kept.image);
      entries = λ site. kept.entries site ∙ ap (λ s. entries_of s (state_in_rows (rows_in after)) site) (sym same);
      room = log ∙ holds.room;
    }

-- what is known of the state once the newest group is taken back
pub record IsTakenBack (before after : ManagerState) (catalog : Catalog) (older : List Group) : Type 0 where
  pub sound : IsSound after catalog older
  pub image : after.sites.image ≡ before.sites.image

pub taken_back : (before after : ManagerState) (catalog : Catalog) (older : List Group) (newest : Group) → IsSound before catalog (older ++ newest ∷ [])
    → rows_in after ≡ undone (rows_in before) newest.rows → after.modules ≡ record before.modules { loaded = after.sites.loaded } → after.log.room ≡ before.log.room
    → IsTakenBack before after catalog older
taken_back before after catalog older newest sound rows modules log =
    let setting = setting_in before catalog in
    let steps = subst (λ r. AreSteps setting r older) (sym rows) (step_taken_back setting (rows_in before) older newest sound.steps) in
    let kept = kept_now setting (rows_in after) older steps in
    let same : setting ≡ setting_in after catalog = sym (ap (λ (i : Image). setting_of (record (managed_of before catalog) { image = i })) kept.image) in
    record {
      sound = record { holds = invariant_again before after catalog sound.holds kept modules log; steps = subst (λ s. AreSteps s (rows_in after) older) same steps };
      image = kept.image;
    }

pub rewound : (before after : ManagerState) (catalog : Catalog) (groups left : List Group) (mark : ℕ) → IsSound after catalog left → left ≡ take mark groups
    → rows_before_all (rows_in after) left ≡ rows_before_all (rows_in before) groups → after.sites.image ≡ before.sites.image
    → IsRewound (journaled_of before catalog groups) (journaled_of after catalog left) mark
rewound before after catalog groups left mark sound is base image =
    let own = managed_of before catalog in
    record {
      groups = is;
      base = ap state_in_rows base;
      image = image;
      catalog = refl;
      state = (sound_stands after catalog left sound).state
          ∙ ap (λ (i : Image). state_after_history (setting_of (record own { image = i })) (state_in_rows (rows_before_all (rows_in after) left)) (history_in left)) image
          ∙ ap (λ (r : Rows). state_after_history (setting_of own) (state_in_rows r) (history_in left)) base
          ∙ ap (λ gs. state_after_history (setting_of own) (state_in_rows (rows_before_all (rows_in before) groups)) (history_in gs)) is;
    }

-- an event that the machine accepts is accepted where there is room
pub with_room : (setting : Setting) (state : State) (groups : List Group) (event : Event) (reply : Reply) → has_room groups ≡ true → Ok reply ≡ answer setting state event
    → Ok reply ≡ answer_in setting state groups event
with_room setting state groups event reply room is = ap (unless_full true) is ∙ ap (λ b. unless_full b (answer setting state event)) (sym room)

-- callbacks that ran are counted
pub counted : (before after : Journaled) (event : Event) (result : Result Reply Refusal) (calls : List Call) → IsTaken before after event result
    → AreCounted before.managed.catalog (after_event before.managed event).catalog calls
    → IfOk result (λ reply. AreCounted before.managed.catalog after.managed.catalog calls)
counted before after event (Ok reply) calls taken counts =
    subst (λ (m : Managed). AreCounted before.managed.catalog m.catalog calls) (sym taken.accepted.left) counts
counted before after event (Err refusal) calls taken counts = tt

pub same_setting_taken : (before after : Journaled) (event : Event) (result : Result Reply Refusal) → IsTaken before after event result → setting_of after.managed ≡ setting_of before.managed
same_setting_taken before after event (Ok reply) taken = same_setting before.managed after.managed event taken.accepted.left
same_setting_taken before after event (Err refusal) taken = ap (λ (m : Journaled). setting_of m.managed) taken.refused

-- events in the journal

pub over : (state : ManagerState) (catalog : Catalog) (events : List Accepted) → AreInStep state catalog events → IsSound state catalog (groups_in state events)
over state catalog events step = record { holds = step.holds; steps = step.steps }

-- groups of which there are some have a newest one
pub some_newest : (groups : List Group) → 0 < length groups → (older : List Group) × (newest : Group) × (groups ≡ older ++ newest ∷ [])
some_newest [] some = absurd (omega (arith, some))
some_newest (group ∷ groups) some = newest_of group groups
  where
    newest_of : (first : Group) (later : List Group) → (older : List Group) × (newest : Group) × (first ∷ later ≡ older ++ newest ∷ [])
    newest_of first [] = ([], first, refl)
    newest_of first (second ∷ later) =
        let rest = newest_of second later in
        (first ∷ rest.0, rest.1, ap (λ gs. first ∷ gs) rest.2)

-- the state once what it logged is kept, which makes no other difference
abbrev pub with_kept : ManagerState → ManagerState
with_kept state = record state { log = record state.log { logged = []; older = state.log.older ++ state.log.logged } }

invariant_kept : (state : ManagerState) (catalog : Catalog) → Invariant state catalog → Invariant (with_kept state) catalog
invariant_kept state catalog holds = record {
  allowed = holds.allowed;
  stated = holds.stated;
  limits = holds.limits;
  modules_are = holds.modules_are;
  catalog_names = holds.catalog_names;
  entries = holds.entries;
  room = holds.room;
}

pub kept_in_step : (after last : ManagerState) (now : Catalog) (events : List Accepted) (groups : List Group) → IsSound after now groups → last ≡ with_kept after
    → groups_in last events ≡ groups → Keeps last.log events → AreInStep last now events
kept_in_step after last now events groups sound is =
    subst (λ (m : ManagerState). groups_in m events ≡ groups → Keeps m.log events → AreInStep m now events) (sym is)
    (λ same keeps. record {
      holds = invariant_kept after now sound.holds;
      steps = subst (AreSteps (setting_in after now) (rows_in after)) (sym same) sound.steps;
      kept = keeps;
    })

pub kept_journaled : (after last : ManagerState) (now : Catalog) (events : List Accepted) (groups : List Group) → last ≡ with_kept after → groups_in last events ≡ groups
    → journaled_of after now groups ≡ journaled_of last now (groups_in last events)
kept_journaled after last now events groups is same =
    ap (λ (m : ManagerState). journaled_of m now groups) (sym is) ∙ ap (journaled_of last now) (sym same)

-- the newest event is taken back: its records were taken out of the list, and nothing is logged
pub taken_back_in_step : (before after : ManagerState) (catalog : Catalog) (log : RecordList) (older : List Group) (newest : Group) (left : List Accepted)
    → IsTakenBack before after catalog older → after.log ≡ record log { logged = [] } → groups_of left log.older ≡ older → records.counted left ≡ length log.older
    → AreInStep after catalog left
taken_back_in_step before after catalog log older newest left back is groups all =
    let same = ap (λ (l : RecordList). groups_of left l.older) is ∙ groups in
    record {
      holds = back.sound.holds;
      steps = subst (AreSteps (setting_in after catalog) (rows_in after)) (sym same) back.sound.steps;
      kept = record { all = all ∙ ap (λ (l : RecordList). length l.older) (sym is); rests = ap (λ (l : RecordList). l.logged) is };
    }
