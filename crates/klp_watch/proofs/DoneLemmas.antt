-- What one item comes to.
use Rattle.std.proofs.Common.{◌≡◌, ℕ, Bool, true, false, List, [], ◌∷◌, Option, Some, None, refl, sym, ap, subst, ◌∙◌, append-nil}
use Rattle.std.specs.Prelude.{not, is_none, is_some, is_err, if◌then◌else◌, Result, Ok, Err}
use Rattle.std.proofs.lemmas.Bool.{and_parts}
use Rattle.klp_types.specs.declared.task.Mode.TheVariants.{Kernel}
use Rattle.klp_types.specs.declared.version.Version.{Version}
use Rattle.klp_types.specs.Callbacks.{Call}
use Rattle.klp_types.specs.Entries.{is_empty}
use Rattle.klp_types.specs.FirstOf.{unless}
use Rattle.klp_types.specs.Setting.{Setting}
use Rattle.klp_model.specs.declared.event.Event.{Event}
use Rattle.klp_model.specs.declared.event.Reply.{Reply}
use Rattle.klp_model.specs.declared.event.Refusal.{Refusal}
use Rattle.klp_model.specs.declared.seen.Seen.TheVariants.{Event as Happens, Call as Calls, Return as Returns}
use Rattle.klp_model.specs.State.{State}
use Rattle.klp_model.specs.Task.{task_at, is_in}
use Rattle.klp_model.specs.Pick.{pick}
use Rattle.klp_model.specs.Refusals.{refusal}
use Rattle.klp_model.specs.Step.{accepted, callbacks_of}
use Rattle.klp_model.specs.Run.{answer_of, next}
use Rattle.klp_model.specs.Observed.{Stacks, begun, seen_next, IsHonestEvent}
use Rattle.klp_journal.specs.Journal.{has_room}
use Rattle.klp_catalog.specs.Runs.{after_runs}
use Rattle.klp_manager_state.specs.Managed.{Managed, setting_of}
use Rattle.klp_manager_state.specs.Events.{after_event}
use Rattle.klp_core.specs.Events.{after_events}
use Rattle.klp_core.specs.Journaled.{Journaled}
use Rattle.klp_core.specs.Taking.{unless_full, IsLoggedAs, IsTaken}
use Rattle.klp_watch.specs.Inside.{AreInside}
use Rattle.klp_watch.specs.Watching.{moment_of, may_call, may_return, IsDone}

-- an event that is answered `Ok` is one that nothing refuses
accepted_by : (room : Bool) (refused : Option Refusal) (outcome : Reply × State) (reply : Reply)
    → unless_full room (answer_of (unless refused outcome)) ≡ Ok reply → is_none refused ≡ true
accepted_by room None outcome reply is = refl
accepted_by true (Some reason) outcome reply is = let no : ⊥ = cc in absurd no
accepted_by false (Some reason) outcome reply is = let no : ⊥ = cc in absurd no

-- an event alone is a list of one
one_event : (managed : Managed) (event : Event) → after_event managed event ≡ after_events managed (event ∷ [])
one_event managed event =
    ap (λ (calls : List Call). record managed { catalog = after_runs managed.catalog calls; state = next (setting_of managed) managed.state event })
    (sym (append-nil (callbacks_of (setting_of managed) managed.state event)))

module _ (before after : Journaled) (stacks : Stacks) (event : Event) (table : List (List Version)) where
  abbrev setting : Setting
  setting = setting_of before.managed

  -- a refused event is an item done
  pub refused_done : (result : Result Reply Refusal) → IsTaken before after event result → is_err result ≡ true → AreInside table stacks
      → IsDone before after stacks (Happens event) table
  refused_done (Ok reply) taken is are = let no : ⊥ = cc in absurd no
  refused_done (Err refusal) taken is are =
      subst (λ (m : Journaled). IsDone before m stacks (Happens event) table) (sym taken.refused) (record {
        outcome = Some (Err refusal);
        taken = sym taken.answered;
        honest = tt;
        groups = sym (append-nil before.groups);
        left = refl;
        base = refl;
        inside = are;
      })

  -- an accepted one that breaks no premise
  pub accepted_done : (result : Result Reply Refusal) → IsTaken before after event result → is_err result ≡ false
      → setting_of after.managed ≡ setting → IsHonestEvent (setting_of after.managed) stacks event → AreInside table (begun event stacks)
      → IsDone before after stacks (Happens event) table
  accepted_done (Err refusal) taken is same honest are = let no : ⊥ = cc in absurd no
  accepted_done (Ok reply) taken is same honest are =
      let appends = taken.accepted in
      let state = before.managed.state in
      let accepts_it = accepted_by (has_room before.groups) (refusal setting state event) (accepted setting state event) reply (sym taken.answered) in
      record {
        outcome = Some (Ok appends.group);
        taken = (sym taken.answered ∙ ap Ok (sym appends.logged.reply_is), subst (IsLoggedAs setting state appends.group event) (sym appends.logged.reply_is) appends.logged);
        honest = ((λ _. subst (λ (s : Setting). IsHonestEvent s stacks event) same honest), tt);
        groups = appends.groups;
        left = appends.left ∙ one_event before.managed event;
        base = appends.base;
        inside = subst (λ (b : Bool). AreInside table (if b then begun event stacks else stacks)) (sym accepts_it) are;
      }

module _ (manager : Journaled) (stacks : Stacks) (table : List (List Version)) where
  abbrev own : Setting
  own = setting_of manager.managed

  pub called_done : (task site : ℕ) → (may_call own (moment_of manager stacks) task site ≡ true)
      × AreInside table (seen_next own (moment_of manager stacks) (Calls task site)).stacks
      → IsDone manager manager stacks (Calls task site) table
  called_done task site is = record {
    outcome = None;
    taken = tt;
    honest = (and_parts (is_in Kernel (task_at manager.managed.state.tasks task)) (is_some (pick own manager.managed.state task site)) is.0, tt);
    groups = sym (append-nil manager.groups);
    left = refl;
    base = refl;
    inside = is.1;
  }

  is_false : (b : Bool) → not b ≡ true → b ≡ false
  is_false false is = refl
  is_false true is = let no : ⊥ = cc in absurd no

  pub returned_done : (task : ℕ) → (may_return (moment_of manager stacks) task ≡ true)
      × AreInside table (seen_next own (moment_of manager stacks) (Returns task)).stacks
      → IsDone manager manager stacks (Returns task) table
  returned_done task is =
      let both = and_parts (is_in Kernel (task_at manager.managed.state.tasks task)) (not (is_empty (stacks task))) is.0 in
      record {
        outcome = None;
        taken = tt;
        honest = ((both.0, is_false (is_empty (stacks task)) both.1), tt);
        groups = sym (append-nil manager.groups);
        left = refl;
        base = refl;
        inside = is.1;
      }
