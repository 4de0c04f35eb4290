-- The invariant holds at every moment of an honest observed run.
use Rattle.std.proofs.Common.{◌≡◌, ℕ, Bool, true, false, List, [], ◌∷◌, ◌++◌, Option, Some, None, is_some, refl, sym, ap, subst, append-nil}
use Rattle.std.specs.Prelude.{◌==◌, if◌then◌else◌, option_map}
use Rattle.std.proofs.lemmas.Bool.{eqb-true}
use Rattle.klp_types.specs.declared.version.Version.{Version}
use Rattle.klp_types.specs.declared.version.Target.{Target}
use Rattle.klp_types.specs.declared.task.Mode.{Mode}
use Rattle.klp_types.specs.declared.task.Mode.TheVariants.{User, Kernel, Asleep}
use Rattle.klp_model.specs.declared.event.Event.{Event}
use Rattle.klp_types.specs.Setting.{Setting}
use Rattle.klp_types.specs.declared.task.Task.{Task}
use Rattle.klp_model.specs.Task.{task_at, is_mode, is_in}
use Rattle.klp_model.specs.State.{State}
use Rattle.klp_types.specs.Entries.{is_empty}
use Rattle.klp_model.specs.Refusals.{refusals, accepts}
use Rattle.klp_model.specs.Run.{next, run}
use Rattle.klp_model.specs.Allowed.{Allowed}
use Rattle.klp_model.proofs.RefusalLemmas.{none_holds, next_accepted}
use Rattle.klp_model.proofs.RefusalLemmas.{next_refused}
use Rattle.klp_model.proofs.AllowedRunLemmas.{allowed_after}
use Rattle.klp_model.specs.Pick.{pick, pick_by}
use Rattle.klp_model.specs.declared.seen.Seen.{Seen}
use Rattle.klp_model.specs.declared.seen.Seen.TheVariants.{Event as Happens, Call as Calls, Return as Returns}
use Rattle.klp_model.specs.Observed.{Frame, Stacks, with_frames, Watched, called, drop_last, begun, events_of, seen_next, seen_run, opening, seen_from, IsHonestItem, AreHonest, IsHonestRun}
use Rattle.klp_model.specs.InPlace.{IsInPlace}
use Rattle.klp_model.specs.Consistent.{version_now, AreCurrent, AllCurrent}
use Rattle.klp_model.proofs.PickLemmas.{now}
use Rattle.klp_model.proofs.KeptLemmas.{RightMode, IsKept, Kept, kept_event}

kernel_mode : (mode : Mode) (recorded : List Version) (frames : List Frame) → is_mode mode Kernel ≡ true → RightMode mode recorded frames
kernel_mode User recorded frames e = cc
kernel_mode Kernel recorded frames e = tt
kernel_mode Asleep recorded frames e = cc

put_current : (now_ : ℕ → Option Version) (frames : List Frame) (frame : Frame) → now_ frame.site ≡ Some frame.version → AreCurrent now_ frames → AreCurrent now_ (frames ++ frame ∷ [])
put_current now_ [] frame e are = (e, tt)
put_current now_ (first ∷ frames) frame e are = (are.0, put_current now_ frames frame e are.1)

drop_current : (now_ : ℕ → Option Version) (frames : List Frame) → AreCurrent now_ frames → AreCurrent now_ (drop_last frames)
drop_current now_ [] are = tt
drop_current now_ (first ∷ frames) are = by (is_empty frames) (drop_current now_ frames are.1)
  where
    by : (t : Bool) → AreCurrent now_ (drop_last frames) → AreCurrent now_ (if t then [] else first ∷ drop_last frames)
    by true rest = tt
    by false rest = (are.0, rest)

module _ (setting : Setting) where
  -- the frames of one task change, that is in the kernel
  frames_put : (state : State) (stacks : Stacks) (number : ℕ) (frames : List Frame)
      → is_in Kernel (task_at state.tasks number) ≡ true
      → ((task : Task) → task_at state.tasks number ≡ Some task → AreCurrent (now setting state task.state) (stacks number) → AreCurrent (now setting state task.state) frames)
      → Kept setting state stacks → Kept setting state (with_frames stacks number frames)
  frames_put state stacks number frames kernel goes kept other = by (other == number) refl
    where
      here : (task : Option Task) → task_at state.tasks number ≡ task → is_in Kernel task ≡ true → IsKept setting state task (stacks number) → IsKept setting state task frames
      here None is e k = cc
      here (Some task) is e k = (goes task is k.0, kernel_mode task.mode task.frames frames e)

      by : (t : Bool) → (other == number) ≡ t → IsKept setting state (task_at state.tasks other) (if t then frames else stacks other)
      by true is =
          subst (λ n. IsKept setting state (task_at state.tasks n) frames) (sym (eqb-true other number is)) (here (task_at state.tasks number) refl kernel (kept number))
      by false is = kept other

  called_current : (state : State) (task : Task) (site : ℕ) (frames : List Frame) (target : Option Target) → pick_by setting state site (Some task) ≡ target
      → AreCurrent (now setting state task.state) frames → AreCurrent (now setting state task.state) (called site frames target)
  called_current state task site frames None is are = are
  called_current state task site frames (Some target) is are =
      put_current (now setting state task.state) frames (record { site = site; version = target.version }) (ap (option_map (λ (t : Target). t.version)) is) are

  event_kept : IsInPlace setting → (w : Watched) (event : Event) → Allowed setting w.state → Kept setting w.state w.stacks → IsHonestItem setting w (Happens event)
      → Kept setting (seen_next setting w (Happens event)).state (seen_next setting w (Happens event)).stacks
  event_kept place w event allowed kept honest = by (accepts setting w.state event) refl
    where
      by : (t : Bool) → accepts setting w.state event ≡ t → Kept setting (next setting w.state event) (if t then begun event w.stacks else w.stacks)
      by true e =
          subst (λ s. Kept setting s (begun event w.stacks)) (sym (next_accepted setting w.state event e))
          (kept_event setting w.state allowed w.stacks kept event place (none_holds (refusals setting w.state event) e) (honest e))
      by false e = subst (λ s. Kept setting s w.stacks) (sym (next_refused setting w.state event e)) kept

  item_kept : IsInPlace setting → (w : Watched) (item : Seen) → Allowed setting w.state → Kept setting w.state w.stacks → IsHonestItem setting w item
      → Kept setting (seen_next setting w item).state (seen_next setting w item).stacks
  item_kept place w (Happens event) allowed kept honest = event_kept place w event allowed kept honest
  item_kept place w (Calls task site) allowed kept honest =
      frames_put w.state w.stacks task (called site (w.stacks task) (pick setting w.state task site)) honest.0
      (λ t is are. called_current w.state t site (w.stacks task) (pick setting w.state task site) (ap (λ o. pick_by setting w.state site o) (sym is)) are) kept
  item_kept place w (Returns task) allowed kept honest =
      frames_put w.state w.stacks task (drop_last (w.stacks task)) honest.0 (λ t is are. drop_current (now setting w.state t.state) (w.stacks task) are) kept

  item_allowed : (w : Watched) (item : Seen) → Allowed setting w.state → Allowed setting (seen_next setting w item).state
  item_allowed w (Happens event) allowed = allowed_after setting w.state event allowed
  item_allowed w (Calls task site) allowed = allowed
  item_allowed w (Returns task) allowed = allowed

  run_kept : IsInPlace setting → (w : Watched) (first second : List Seen) → Allowed setting w.state → Kept setting w.state w.stacks → AreHonest setting w (first ++ second)
      → Allowed setting (seen_run setting w first).state × Kept setting (seen_run setting w first).state (seen_run setting w first).stacks
  run_kept place w [] second allowed kept honest = (allowed, kept)
  run_kept place w (item ∷ first) second allowed kept honest =
      run_kept place (seen_next setting w item) first second (item_allowed w item allowed) (item_kept place w item allowed kept honest.0) honest.1

  nobody : (task : Option Task) (state : State) → is_some task ≡ false → IsKept setting state task []
  nobody None state e = refl
  nobody (Some task) state e = cc

  pub kept_from : (start : State) (first second : List Seen) → IsInPlace setting → IsHonestRun setting start (first ++ second)
      → Allowed setting (seen_from setting start first).state × Kept setting (seen_from setting start first).state (seen_from setting start first).stacks
  kept_from start first second place run =
      run_kept place (opening start) first second run.allowed (λ number. nobody (task_at start.tasks number) start (run.no_task number)) run.honest

pub are_current : (setting : Setting) (start : State) (first second : List Seen) → IsInPlace setting → IsHonestRun setting start (first ++ second)
    → AllCurrent setting (seen_from setting start first)
are_current setting start first second place run number =
    by (task_at (seen_from setting start first).state.tasks number) refl ((kept_from setting start first second place run).1 number)
  where
    by : (task : Option Task) → task_at (seen_from setting start first).state.tasks number ≡ task → IsKept setting (seen_from setting start first).state task ((seen_from setting start first).stacks number)
        → AreCurrent (version_now setting (seen_from setting start first).state number) ((seen_from setting start first).stacks number)
    by None is k = subst (AreCurrent (version_now setting (seen_from setting start first).state number)) (sym k) tt
    by (Some task) is k =
        subst (λ o. AreCurrent (λ site. option_map (λ (t : Target). t.version) (pick_by setting (seen_from setting start first).state site o)) ((seen_from setting start first).stacks number)) (sym is) k.0

-- the state is that of the events alone
pub seen_state : (setting : Setting) (w : Watched) (items : List Seen) → (seen_run setting w items).state ≡ run setting w.state (events_of items)
seen_state setting w [] = refl
seen_state setting w (Happens event ∷ items) = seen_state setting (seen_next setting w (Happens event)) items
seen_state setting w (Calls task site ∷ items) = seen_state setting (seen_next setting w (Calls task site)) items
seen_state setting w (Returns task ∷ items) = seen_state setting (seen_next setting w (Returns task)) items

pub current_at_end : (setting : Setting) (start : State) (items : List Seen) → IsInPlace setting → IsHonestRun setting start items → AllCurrent setting (seen_from setting start items)
current_at_end setting start items place run_ = are_current setting start items [] place (subst (IsHonestRun setting start) (sym (append-nil items)) run_)
