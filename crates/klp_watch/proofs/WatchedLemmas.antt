-- What a list of items comes to, item by item.
use Rattle.std.proofs.Common.{◌≡◌, ℕ, ◌+◌, ◌<◌, List, [], ◌∷◌, ◌++◌, map, length, take, drop, get_or, refl, sym, ap, subst, ◌∙◌, arith, append-nil, add-one}
use Rattle.std.specs.Prelude.{Result, Ok, Err, IfOk, IfErr}
use Rattle.std.proofs.lemmas.List.{take-append-drop, take_more, drop_more, length-take-le}
use Rattle.klp_types.specs.declared.version.Version.{Version}
use Rattle.klp_types.specs.Setting.{Setting}
use Rattle.klp_model.specs.declared.event.Event.{Event}
use Rattle.klp_model.specs.declared.event.Reply.{Reply}
use Rattle.klp_model.specs.declared.seen.Seen.{Seen}
use Rattle.klp_model.specs.Allowed.{Allowed}
use Rattle.klp_model.specs.State.{State}
use Rattle.klp_model.specs.Run.{run}
use Rattle.klp_model.specs.Observed.{Stacks, HasNoTask, seen_from}
use Rattle.klp_manager_state.specs.Managed.{setting_of}
use Rattle.klp_core.specs.Journaled.{Journaled, IsWellFormed, history_in}
use Rattle.klp_watch.specs.declared.cause.Cause.{Cause}
use Rattle.klp_watch.specs.Inside.{AreInside}
use Rattle.klp_watch.specs.Watching.{accepted_in, AreWatched, IsDone, IsReported, IsFault}
use Rattle.klp_watch.proofs.RunLemmas.{GoOn, OfEvents, more}

abbrev pub StaysAllowed : Type 0
StaysAllowed = (setting : Setting) (state : State) (events : List Event) → Allowed setting state → Allowed setting (run setting state events)

-- the state of a manager is one that events lead to
pub allowed_now : StaysAllowed → (manager : Journaled) → IsWellFormed manager → Allowed (setting_of manager.managed) manager.managed.state
allowed_now stays manager well_formed =
    subst (Allowed (setting_of manager.managed)) (sym well_formed.state)
    (stays (setting_of manager.managed) manager.base (map (λ (p : Event × Reply). p.0) (history_in manager.groups)) well_formed.allowed)

-- these were done, and tasks are inside of what the table has, if no task was there at first
abbrev pub SoFar : Journaled → Journaled → List (List Version) → List Seen → Type 0
SoFar first now table items =
    HasNoTask first.managed.state
    → (watched : AreWatched first now items)
    × AreInside table (seen_from (setting_of first.managed) first.managed.state (accepted_in items watched.outcomes)).stacks

pub none_so_far : StaysAllowed → (first : Journaled) (table : List (List Version)) → IsWellFormed first → AreInside table (λ n. []) → SoFar first first table []
none_so_far stays first table well_formed none nobody = (
  record {
    outcomes = [];
    each = tt;
    honest = record { allowed = allowed_now stays first well_formed; no_task = nobody; honest = tt };
    groups = sym (append-nil first.groups);
    left = refl;
    base = refl;
  },
  none,
)

-- a list, at one of its items

pub parted_at : {A : Type 0} (xs : List A) (i : ℕ) (x : A) → i < length xs → x ≡ get_or xs i x → xs ≡ take i xs ++ x ∷ drop (i + 1) xs
parted_at xs i x below is =
    sym (take-append-drop i xs) ∙ ap (λ rest. take i xs ++ rest) (drop_more xs i x below ∙ ap (λ y. y ∷ drop (i + 1) xs) (sym is))

pub next_of : {A : Type 0} (xs : List A) (i : ℕ) (x : A) → i < length xs → x ≡ get_or xs i x → take (i + 1) xs ≡ take i xs ++ x ∷ []
next_of xs i x below is = take_more xs i x below ∙ ap (λ y. take i xs ++ y ∷ []) (sym is)

module _ (first now after : Journaled) (table : List (List Version)) (same : setting_of now.managed ≡ setting_of first.managed) where
  pub one_more : GoOn → OfEvents → (items : List Seen) (item : Seen) (new : List (List Version)) → SoFar first now table items
      → ((stacks : Stacks) → AreInside table stacks → IsDone now after stacks item new) → SoFar first after new (items ++ item ∷ [])
  one_more go of items item new so_far does nobody =
      let before = so_far nobody in
      let done = does (seen_from (setting_of first.managed) first.managed.state (accepted_in items before.0.outcomes)).stacks before.1 in
      more go of first now after items item new before.0 same done

  pub reported_next : (items : List Seen) (count : ℕ) (item : Seen) (cause : Cause) → count < length items → item ≡ get_or items count item
      → SoFar first now table (take count items) → ((stacks : Stacks) → AreInside table stacks → IsReported now after stacks item cause)
      → HasNoTask first.managed.state → IsFault first after items (count + 1) cause
  reported_next items count item cause below is so_far tells nobody =
      let before = so_far nobody in
      rw add-one (record {
        earlier = take count items;
        item = item;
        later = drop (count + 1) items;
        parted = parted_at items count item below is;
        count_is = length-take-le count items (omega arith);
        done = now;
        watched = before.0;
        reported = tells (seen_from (setting_of first.managed) first.managed.state (accepted_in (take count items) before.0.outcomes)).stacks before.1;
      })

-- under a premise that holds

pub ok_under : {A E : Type 0} (P Q : Type 0) (result : Result A E) → P → IfOk result (λ _. P → Q) → IfOk result (λ _. Q)
ok_under P Q (Ok value) premise is = is premise
ok_under P Q (Err error) premise is = tt

pub err_under : {A E : Type 0} (P : Type 0) (Q : E → Type 0) (result : Result A E) → P → IfErr result (λ error. P → Q error) → IfErr result Q
err_under P Q (Ok value) premise is = tt
err_under P Q (Err error) premise is = is premise
