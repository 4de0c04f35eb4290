-- A whole trace compared with the rules, item by item.
use Rattle.std.proofs.Common.{◌≡◌, ℕ, ◌+◌, ◌<◌, Bool, true, false, List, [], ◌∷◌, ◌++◌, length, take, drop, get_or, Option, Some, None, refl, sym, ap, subst, ◌∙◌, arith, append-nil, add-one}
use Rattle.std.specs.Prelude.{is_none, is_ok, if◌then◌else◌, Result}
use Rattle.std.specs.Result.{result_err}
use Rattle.std.proofs.lemmas.List.{length-take-le}
use Rattle.klp_types.specs.declared.version.Version.{Version}
use Rattle.klp_types.specs.Callbacks.{Call}
use Rattle.klp_types.specs.FirstOf.{unless}
use Rattle.klp_types.specs.Setting.{Setting}
use Rattle.klp_model.specs.declared.event.Event.{Event}
use Rattle.klp_model.specs.declared.event.Reply.{Reply}
use Rattle.klp_model.specs.declared.event.Refusal.{Refusal}
use Rattle.klp_model.specs.declared.seen.Seen.TheVariants.{Event as Happens, Call as Calls, Return as Returns}
use Rattle.klp_model.specs.State.{State}
use Rattle.klp_model.specs.EventCalls.{calls}
use Rattle.klp_model.specs.Refusals.{refusal}
use Rattle.klp_model.specs.Step.{accepted, calls_unless}
use Rattle.klp_model.specs.Run.{answer_of, run}
use Rattle.klp_model.specs.Observed.{Stacks, Watched, events_of, seen_from, HasNoTask}
use Rattle.klp_journal.specs.Journal.{Group, has_room}
use Rattle.klp_catalog.specs.Runs.{after_runs}
use Rattle.klp_manager_state.specs.Managed.{Managed, setting_of}
use Rattle.klp_core.specs.Journaled.{Journaled, IsWellFormed}
use Rattle.klp_core.specs.Taking.{answer_in}
use Rattle.klp_watch.specs.declared.observed.Observed.{Observed}
use Rattle.klp_watch.specs.declared.observed.Observed.TheVariants.{Seen as Item, Answered, Saw}
use Rattle.klp_watch.specs.declared.difference.Difference.{Difference}
use Rattle.klp_watch.specs.declared.difference.Difference.TheVariants.{Premise, Answer}
use Rattle.klp_watch.specs.declared.refused.RefusedEvents.{RefusedEvents}
use Rattle.klp_watch.specs.Inside.{AreInside}
use Rattle.klp_watch.specs.Refused.{refusal_at, refused_in, with_refusal}
use Rattle.klp_watch.proofs.RefusedLemmas.{one_more_refused}
use Rattle.klp_watch.specs.Watching.{moment_of, once_taken_back}
use Rattle.klp_watch.specs.Whole.{LeadHonestly, once_reported}
use Rattle.klp_watch.specs.Compared.{taken_of, taken_from, IsSo, IsSoAt, IsDoneSo, DiffersIn, IsReportedFor, once_differing}
use Rattle.klp_watch.specs.ComparedWhole.{AreAllSo, once_reported_for, IsDifferenceOfWhole}
use Rattle.klp_watch.proofs.RunLemmas.{GoOn, OfEvents}
use Rattle.klp_watch.proofs.WatchedLemmas.{StaysAllowed, parted_at}
use Rattle.klp_watch.proofs.WholeLemmas.{SeenTo, nothing_seen, seen_next_to, moment_now, cause_by_rules, answered, reported_left}
use Rattle.klp_watch.proofs.ComparedLemmas.{no_item, at_each, taken_more, is_so}

-- these are so, and tasks are inside of what the table has, if no task was there at first
abbrev pub AllSoTo : Managed → Managed → List (List Version) → List Observed → Type 0
AllSoTo first now table items =
    HasNoTask first.state → AreAllSo first now items × AreInside table (seen_from (setting_of first) first.state (taken_from items)).stacks

pub nothing_so : StaysAllowed → (first : Journaled) (table : List (List Version)) → IsWellFormed first → AreInside table (λ n. []) → AllSoTo first.managed first.managed table []
nothing_so stays first table well_formed none nobody =
    let seen = nothing_seen stays first table well_formed none nobody in
    (record { lead = seen.0; so = λ earlier later item parted. absurd (no_item earlier later item parted) }, seen.1)

-- where the journal has room it has no say
module _ (setting : Setting) (groups : List Group) (room : has_room groups ≡ true) where
  in_empty : (state : State) (event : Event) → answer_in setting state [] event ≡ answer_in setting state groups event
  in_empty state event = answered setting state [] event refl ∙ sym (answered setting state groups event room)

  so_by_rules : (state : State) (item : Observed) → IsSo setting state groups item → IsSo setting state [] item
  so_by_rules state (Item item) is = tt
  so_by_rules state (Answered event answer) is = in_empty state event ∙ is
  so_by_rules state (Saw sight) is = is

  refusal_by_rules : (state : State) (item : Observed) → refusal_at setting state groups item ≡ refusal_at setting state [] item
  refusal_by_rules state (Item (Happens event)) = ap result_err (sym (in_empty state event))
  refusal_by_rules state (Item (Calls task site)) = refl
  refusal_by_rules state (Item (Returns task)) = refl
  refusal_by_rules state (Answered event answer) = refl
  refusal_by_rules state (Saw sight) = refl

  differs_by_rules : (w : Watched) (item : Observed) (difference : Difference) → DiffersIn setting w groups item difference → DiffersIn setting w [] item difference
  differs_by_rules w (Item item) (Premise cause) is = cause_by_rules setting w groups item cause room is
  differs_by_rules w (Answered event answer) (Premise cause) is = cause_by_rules setting w groups (Happens event) cause room is
  differs_by_rules w (Answered event answer) Answer is = (
    (λ so. is.0 (sym (in_empty w.state event) ∙ so)),
    (λ cause breaks. is.1 cause (subst (λ (r : Result Reply Refusal). is_ok r ≡ true) (in_empty w.state event) breaks.0, breaks.1)),
  )
  differs_by_rules w (Saw sight) difference is = is
  differs_by_rules w item difference is = absurd is

-- a refused event runs nothing
runs_nothing : (managed : Managed) (refused : Option Refusal) (runs : List Call) → is_none refused ≡ false
    → managed ≡ record managed { catalog = after_runs managed.catalog (calls_unless refused runs) }
runs_nothing managed None runs is = let no : ⊥ = cc in absurd no
runs_nothing managed (Some reason) runs is = refl

is_refused : (refused : Option Refusal) (outcome : Reply × State) → is_ok (answer_of (unless refused outcome)) ≡ false → is_none refused ≡ false
is_refused None outcome is = let no : ⊥ = cc in absurd no
is_refused (Some reason) outcome is = refl

module _ (before after : Journaled) (room : has_room before.groups ≡ true) where
  abbrev own : Setting
  own = setting_of before.managed

  -- an answered event is given back if it was accepted, and is nothing if it wasn't
  event_left : (event : Event) (is_accepted : Bool) → is_ok (answer_in own before.managed.state before.groups event) ≡ is_accepted
      → after ≡ (if is_accepted then once_taken_back before (Happens event) else before) → after.managed ≡ once_reported before.managed (Happens event)
  event_left event true is left = ap (λ (m : Journaled). m.managed) left
  event_left event false is left =
      let state = before.managed.state in
      ap (λ (m : Journaled). m.managed) left
      ∙ runs_nothing before.managed (refusal own state event) (calls own state event)
      (is_refused (refusal own state event) (accepted own state event) (ap is_ok (sym (answered own state before.groups event room)) ∙ is))

  differing_left : (item : Observed) → after ≡ once_differing before item → after.managed ≡ once_reported_for before.managed item
  differing_left (Item item) left = reported_left before after item left
  differing_left (Answered event answer) left = event_left event (is_ok (answer_in own before.managed.state before.groups event)) refl left
  differing_left (Saw sight) left = ap (λ (m : Journaled). m.managed) left

module _ (first now ready after : Journaled) (table new : List (List Version)) (same : setting_of now.managed ≡ setting_of first.managed)
    (made : ready.managed ≡ now.managed) (room : has_room ready.groups ≡ true) where
  abbrev setting : Setting
  setting = setting_of first.managed

  -- what happened
  as_seen : (items : List Observed) → AllSoTo first.managed now.managed table items → SeenTo first.managed now.managed table (taken_from items)
  as_seen items so nobody = let before = so nobody in (before.0.lead, before.1)

  happened_next : GoOn → OfEvents → (items : List Observed) (item : Observed) → SeenTo first.managed now.managed table (taken_from items)
      → ((stacks : Stacks) → AreInside table stacks → IsDoneSo ready after stacks item new) → SeenTo first.managed after.managed new (taken_from items ++ taken_of item)
  happened_next go of items (Item item) so does = seen_next_to first now ready after table same made room go of (taken_from items) item new so does
  happened_next go of items (Answered event answer) so does =
      seen_next_to first now ready after table same made room go of (taken_from items) (Happens event) new so (λ stacks are. (does stacks are).0)
  happened_next go of items (Saw sight) so does = λ nobody.
      let before = so nobody in
      let done = does (seen_from setting first.managed.state (taken_from items)).stacks before.1 in
      subst (λ xs. LeadHonestly first.managed after.managed xs × AreInside new (seen_from setting first.managed.state xs).stacks) (sym (append-nil (taken_from items)))
      (subst (λ (m : Managed). LeadHonestly first.managed m (taken_from items)) (sym made ∙ ap (λ (m : Journaled). m.managed) (sym done.0)) before.0, done.1)

  ready_same : setting_of ready.managed ≡ setting
  ready_same = ap setting_of made ∙ same

  so_there : (items : List Observed) (item : Observed) → LeadHonestly first.managed now.managed (taken_from items) → IsSoAt ready item
      → IsSo setting (run setting first.managed.state (events_of (taken_from items))) [] item
  so_there items item lead is =
      subst (λ (s : State). IsSo setting s [] item) (ap (λ (m : Managed). m.state) made ∙ ap (λ (m : Managed). m.state) lead.left)
      (subst (λ (k : Setting). IsSo k ready.managed.state [] item) ready_same
      (so_by_rules (setting_of ready.managed) ready.groups room ready.managed.state item is))

  refused_there : (items : List Observed) (item : Observed) → LeadHonestly first.managed now.managed (taken_from items)
      → refusal_at (setting_of ready.managed) ready.managed.state ready.groups item
      ≡ refusal_at setting (run setting first.managed.state (events_of (taken_from items))) [] item
  refused_there items item lead =
      refusal_by_rules (setting_of ready.managed) ready.groups room ready.managed.state item
      ∙ ap (λ (k : Setting). refusal_at k ready.managed.state [] item) ready_same
      ∙ ap (λ (s : State). refusal_at setting s [] item) (ap (λ (m : Managed). m.state) made ∙ ap (λ (m : Managed). m.state) lead.left)

  pub refused_next : (items : List Observed) (item : Observed) (refused more : RefusedEvents) (number : ℕ) (refusal : Option Refusal) → number ≡ 1 + length items
      → LeadHonestly first.managed now.managed (taken_from items) → refused ≡ refused_in setting first.managed.state items
      → refusal ≡ refusal_at (setting_of ready.managed) ready.managed.state ready.groups item → more ≡ with_refusal refused number refusal
      → more ≡ refused_in setting first.managed.state (items ++ item ∷ [])
  refused_next items item refused more number refusal is lead so tells added =
      added
      ∙ ap (λ (r : RefusedEvents). with_refusal r number refusal) so
      ∙ ap (with_refusal (refused_in setting first.managed.state items) number) (tells ∙ refused_there items item lead)
      ∙ one_more_refused setting first.managed.state items item number is

  pub all_so_next : GoOn → OfEvents → (items : List Observed) (item : Observed) → AllSoTo first.managed now.managed table items
      → ((stacks : Stacks) → AreInside table stacks → IsDoneSo ready after stacks item new) → AllSoTo first.managed after.managed new (items ++ item ∷ [])
  all_so_next go of items item so does nobody =
      let before = so nobody in
      let stacks = (seen_from setting first.managed.state (taken_from items)).stacks in
      let seen : SeenTo first.managed after.managed new (taken_from (items ++ item ∷ [])) =
      subst (SeenTo first.managed after.managed new) (sym (taken_more items item)) (happened_next go of items item (as_seen items so) does) in
      let all = seen nobody in (
        record {
          lead = all.0;
          so = at_each (λ earlier other. IsSo setting (run setting first.managed.state (events_of (taken_from earlier))) [] other) items item
              (so_there items item before.0.lead (is_so ready after stacks item new (does stacks before.1))) before.0.so;
        },
        all.1,
      )

  pub differ_next : OfEvents → (items : List Observed) (count : ℕ) (item : Observed) (difference : Difference) → count < length items → item ≡ get_or items count item
      → AllSoTo first.managed now.managed table (take count items)
      → ((stacks : Stacks) → AreInside table stacks → IsReportedFor ready after stacks item difference)
      → HasNoTask first.managed.state → IsDifferenceOfWhole first.managed after.managed items (count + 1) difference
  differ_next of items count item difference below is so tells nobody =
      let earlier = take count items in
      let before = so nobody in
      let moment = seen_from setting first.managed.state (taken_from earlier) in
      let reported = tells moment.stacks before.1 in
      let ready_so = subst (λ (m : Managed). AreAllSo first.managed m earlier) (sym made) before.0 in
      rw add-one (record {
        earlier = earlier;
        item = item;
        later = drop (count + 1) items;
        parted = parted_at items count item below is;
        count_is = length-take-le count items (omega arith);
        done = ready.managed;
        so = ready_so;
        why = subst (λ (w : Watched). DiffersIn setting w [] item difference)
            (moment_now of first.managed ready.managed (taken_from earlier) ready_so.lead ready_same)
            (subst (λ (k : Setting). DiffersIn k (moment_of ready moment.stacks) [] item difference) ready_same
            (differs_by_rules (setting_of ready.managed) ready.groups room (moment_of ready moment.stacks) item difference reported.why));
        left = differing_left ready after room item reported.left;
      })
