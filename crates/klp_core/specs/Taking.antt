-- The answers to events, whether the journal has room or not, and what events leave.
use Rattle.std.specs.Prelude.{◌≡◌, ℕ, Bool, true, false, List, [], ◌∷◌, ◌++◌, map, count_by, is_ok, is_err, Some, Result, Ok, Err, IfOk, OnErr}
use Rattle.klp_types.specs.Setting.{Setting}
use Rattle.klp_model.specs.declared.event.Event.{Event}
use Rattle.klp_model.specs.declared.event.Event.TheVariants.{Wake, ShadowGetOrAlloc}
use Rattle.klp_model.specs.declared.event.Reply.{Reply}
use Rattle.klp_model.specs.declared.event.Refusal.{Refusal}
use Rattle.klp_model.specs.declared.event.Refusal.TheVariants.{JournalFull}
use Rattle.klp_model.specs.Run.{answer, next}
use Rattle.klp_model.specs.State.{State}
use Rattle.klp_journal.specs.Journal.{Group, has_room}
use Rattle.klp_manager_state.specs.Managed.{setting_of}
use Rattle.klp_manager_state.specs.Events.{after_event}
use Rattle.klp_core.specs.Events.{after_events}
use Rattle.klp_manager_state.specs.Rows.{undone_if_effective}
use Rattle.klp_core.specs.Journaled.{Journaled, IsSmall, rows_of}

-- the answer `JournalFull` in place of a reply, if the journal has no room; a refusal stays
abbrev pub unless_full : Bool → Result Reply Refusal → Result Reply Refusal
unless_full room (Err refusal) = Err refusal
unless_full true (Ok reply) = Ok reply
unless_full false (Ok reply) = Err JournalFull

-- the answer to an event: the refusal of the step itself takes precedence over that of the journal
abbrev pub answer_in : Setting → State → List Group → Event → Result Reply Refusal
answer_in setting state groups event = unless_full (has_room groups) (answer setting state event)

-- A small group that an event leaves at a state. Its records, put back newest first, give the rows before the event,
-- and each of them has an effect at its turn.
pub record IsLoggedAs (setting : Setting) (state : State) (group : Group) (event : Event) (reply : Reply) : Type 0 where
  pub event_is : group.event ≡ event
  pub reply_is : group.reply ≡ reply
  pub small : IsSmall group
  pub effective : undone_if_effective (rows_of setting (next setting state event)) group.rows ≡ Some (rows_of setting state)

-- an accepted event is appended to the journal as one group, and leaves what the model says; the base stays
pub record Appends (before after : Journaled) (event : Event) (reply : Reply) : Type 0 where
  pub group : Group
  pub logged : IsLoggedAs (setting_of before.managed) before.managed.state group event reply
  pub groups : after.groups ≡ before.groups ++ group ∷ []
  pub left : after.managed ≡ after_event before.managed event
  pub base : after.base ≡ before.base

-- An event was taken, with this answer, and left this. A refusal changes nothing.
pub record IsTaken (before after : Journaled) (event : Event) (result : Result Reply Refusal) : Type 0 where
  pub answered : result ≡ answer_in (setting_of before.managed) before.managed.state before.groups event
  pub accepted : IfOk result (λ reply. Appends before after event reply)
  pub refused : OnErr result (after ≡ before)

-- whether the reply to an event has neither the frames of a task nor the value of a variable
abbrev pub is_brief : Event → Bool
is_brief (Wake task) = false
is_brief (ShadowGetOrAlloc key value) = false
is_brief other = true

-- the outcome of an event: the group that it left, or why it was refused
abbrev pub Outcome : Type 0
Outcome = Result Group Refusal

abbrev pub groups_left : List Outcome → List Group
groups_left [] = []
groups_left (Ok group ∷ outcomes) = group ∷ groups_left outcomes
groups_left (Err refusal ∷ outcomes) = groups_left outcomes

abbrev pub IsOutcome : Setting → State → List Group → Event → Outcome → Type 0
IsOutcome setting state groups event (Ok group) = (answer_in setting state groups event ≡ Ok group.reply) × IsLoggedAs setting state group event group.reply
IsOutcome setting state groups event (Err refusal) = answer_in setting state groups event ≡ Err refusal

-- the outcomes of events taken one after another, if the journal has these groups before the first
abbrev pub AreOutcomes : Setting → State → List Group → List Event → List Outcome → Type 0
AreOutcomes setting state groups [] [] = Unit {0}
AreOutcomes setting state groups (event ∷ events) (Ok group ∷ outcomes) =
    IsOutcome setting state groups event (Ok group) × AreOutcomes setting (next setting state group.event) (groups ++ group ∷ []) events outcomes
AreOutcomes setting state groups (event ∷ events) (Err refusal ∷ outcomes) =
    IsOutcome setting state groups event (Err refusal) × AreOutcomes setting state groups events outcomes
AreOutcomes setting state groups events outcomes = ⊥

-- Events were taken in order, and the accepted ones appended; `counts` are how many were accepted and how many refused.
pub record AreTaken (before after : Journaled) (events : List Event) (counts : ℕ × ℕ) : Type 0 where
  pub outcomes : List Outcome
  pub each : AreOutcomes (setting_of before.managed) before.managed.state before.groups events outcomes
  pub groups : after.groups ≡ before.groups ++ groups_left outcomes
  pub left : after.managed ≡ after_events before.managed (map (λ (g : Group). g.event) (groups_left outcomes))
  pub base : after.base ≡ before.base
  pub accepts : counts.0 ≡ count_by is_ok outcomes
  pub refuses : counts.1 ≡ count_by is_err outcomes
