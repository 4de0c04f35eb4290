-- A call and a return, by the table of versions.
use Rattle.std.proofs.Common.{◌≡◌, ℕ, ◌-◌, ◌<◌, ◌≤◌, Bool, true, false, List, [], ◌∷◌, ◌++◌, length, take, set, Option, Some, None, refl, sym, ap, subst, ◌∙◌, arith, nat_lt}
use Rattle.std.specs.Prelude.{not, is_some}
use Rattle.std.proofs.lemmas.Bool.{and_from, ltb-true, ltb-false}
use Rattle.std.proofs.lemmas.List.{get_or_past}
use Rattle.klp_types.specs.declared.task.Mode.TheVariants.{Kernel}
use Rattle.klp_types.specs.declared.version.Target.{Target}
use Rattle.klp_types.specs.declared.version.Version.{Version}
use Rattle.klp_types.specs.Entries.{is_empty}
use Rattle.klp_types.specs.Setting.{Setting}
use Rattle.klp_model.specs.Task.{Tasks, task_at, is_in}
use Rattle.klp_model.specs.Pick.{pick}
use Rattle.klp_model.specs.declared.seen.Seen.TheVariants.{Call as Calls, Return as Returns}
use Rattle.klp_model.specs.Observed.{Frame, Watched, with_frames, versions, called, drop_last, seen_next}
use Rattle.klp_watch.specs.Inside.{frames_at, AreInside}
use Rattle.klp_watch.specs.Watching.{may_call, may_return}
use Rattle.klp_watch.proofs.InsideLemmas.{put_inside, called_versions, returned_versions, empty_versions}

-- a task that is there has a place among the tasks
in_kernel_below : (tasks : Tasks) (task : ℕ) → is_in Kernel (task_at tasks task) ≡ true → task < length tasks
in_kernel_below tasks task is = by (nat_lt task (length tasks)) refl
  where
    by : (t : Bool) → nat_lt task (length tasks) ≡ t → task < length tasks
    by true e = ltb-true task (length tasks) e
    by false e =
        let past = get_or_past tasks task None (ltb-false task (length tasks) e) in
        let no : ⊥ = cc in
        absurd no

-- versions that a place has
has_place : (table : List (List Version)) (task : ℕ) → is_empty (frames_at table task) ≡ false → length table ≤ task → ⊥
has_place table task some past =
    let none = get_or_past table task [] past in
    let no : ⊥ = cc in
    no

-- a list of some length
pub some_left : (versions : List Version) → (length versions ≡ 0 → ⊥) → is_empty versions ≡ false
some_left [] some = absurd (some refl)
some_left (version ∷ versions) some = refl

module _ (setting : Setting) (w : Watched) (task : ℕ) (table new : List (List Version)) (are : AreInside table w.stacks)
    (kernel : is_in Kernel (task_at w.state.tasks task) ≡ true) where
  -- a call puts the version that it gets behind the others
  pub call_inside : (site : ℕ) (target : Target) (frames pushed : List Version) → length w.state.tasks ≡ length table
      → pick setting w.state task site ≡ Some target → frames ≡ frames_at table task → pushed ≡ frames ++ target.version ∷ []
      → new ≡ set table task pushed
      → (may_call setting w task site ≡ true) × AreInside new (seen_next setting w (Calls task site)).stacks
  call_inside site target frames pushed places picked frames_are pushed_is put =
      let more : List Frame = w.stacks task ++ record { site = site; version = target.version } ∷ [] in
      let below = in_kernel_below w.state.tasks task kernel in
      let pushed_versions : pushed ≡ versions more =
      pushed_is ∙ ap (λ (f : List Version). f ++ target.version ∷ []) (frames_are ∙ are task) ∙ called_versions (w.stacks task) site target.version in
      let inside : AreInside (set table task (versions more)) (with_frames w.stacks task more) =
      put_inside table w.stacks task more are (λ past. absurd (omega (arith, below, places, past))) in (
        and_from (is_in Kernel (task_at w.state.tasks task)) (is_some (pick setting w.state task site)) kernel (ap is_some picked),
        subst (λ (o : Option Target). AreInside new (with_frames w.stacks task (called site (w.stacks task) o))) (sym picked)
            (subst (λ (t : List (List Version)). AreInside t (with_frames w.stacks task more)) (sym (put ∙ ap (set table task) pushed_versions)) inside),
      )

  -- a return takes the last version out
  pub return_inside : (frames popped : List Version) → frames ≡ frames_at table task → is_empty frames ≡ false
      → popped ≡ take (length frames - 1) frames → new ≡ set table task popped
      → (may_return w task ≡ true) × AreInside new (seen_next setting w (Returns task)).stacks
  return_inside frames popped frames_are some popped_is put =
      let fewer : List Frame = drop_last (w.stacks task) in
      let own : frames ≡ versions (w.stacks task) = frames_are ∙ are task in
      let popped_versions : popped ≡ versions fewer =
      popped_is ∙ ap (λ (f : List Version). take (length f - 1) f) own ∙ returned_versions (w.stacks task) in
      let there : is_empty (frames_at table task) ≡ false = ap is_empty (sym frames_are) ∙ some in
      let inside : AreInside (set table task (versions fewer)) (with_frames w.stacks task fewer) =
      put_inside table w.stacks task fewer are (λ past. absurd (has_place table task there past)) in
      let left : is_empty (w.stacks task) ≡ false = sym (empty_versions (w.stacks task)) ∙ ap is_empty (sym own) ∙ some in (
        and_from (is_in Kernel (task_at w.state.tasks task)) (not (is_empty (w.stacks task))) kernel (ap not left),
        subst (λ (t : List (List Version)). AreInside t (with_frames w.stacks task fewer)) (sym (put ∙ ap (set table task) popped_versions)) inside,
      )
