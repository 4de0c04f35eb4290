-- The invariant of an honest observed run, and that each item keeps it.
use Rattle.std.proofs.Common.{◌≡◌, ◌⊎◌, inl, inr, ℕ, zero, suc, ℤ, pos, negsuc, Bool, true, false, not, ◌&&◌, cond, List, [], ◌∷◌, map, length, Option, Some, None, is_some, refl, sym, ap, subst, ◌∙◌}
use Rattle.std.specs.Prelude.{◌==◌, if◌then◌else◌, option_map, slice_index_or, slice_set}
use Rattle.std.specs.List.{list_any, filter, find}
use Rattle.std.proofs.lemmas.Bool.{eq-eqb, eqb-true, and_parts, or_parts, both_ways, not-false}
use Rattle.std.proofs.lemmas.List.Sums.{length-filter}
use Rattle.klp_types.specs.declared.version.Version.{Version}
use Rattle.klp_types.specs.declared.version.Transition.{Transition}
use Rattle.klp_types.specs.declared.task.Mode.{Mode}
use Rattle.klp_types.specs.declared.task.Mode.TheVariants.{User, Kernel, Asleep}
use Rattle.klp_model.specs.declared.event.Event.{Event}
use Rattle.klp_model.specs.declared.event.Event.TheVariants.{Enable, SetEnabled, Force, Poll, Coming, Going, NewTask, Fork, EndTask, EnterKernel, ExitToUser, Sleep, Wake, ShadowAlloc, ShadowGetOrAlloc, ShadowFree, ShadowFreeAll}
use Rattle.klp_types.specs.declared.callback.Which.TheVariants.{PreUn}
use Rattle.klp_types.specs.Image.{object_of}
use Rattle.klp_types.specs.Setting.{Setting, PatchObject, replaces, state_ids}
use Rattle.klp_types.specs.World.{World, with_patch, without_patch}
use Rattle.klp_types.specs.declared.task.Task.{Task}
use Rattle.klp_model.specs.Task.{Tasks, task_at, is_mode, at_rest, at_target, is_at, in_state, all_in}
use Rattle.klp_model.specs.State.{State, installed_patches, with_world, with_tasks}
use Rattle.klp_model.specs.Entries.{is_object_loaded, is_site_loaded}
use Rattle.klp_types.specs.Pick.{moves}
use Rattle.klp_model.specs.Blocked.{blocked, is_held, switched, tried, lags, pending}
use Rattle.klp_model.specs.Frames.{is_object, object_of_version}
use Rattle.klp_model.specs.Callbacks.{loaded_objects, end_calls}
use Rattle.klp_types.specs.Callbacks.{Call, calls_of, refuses, enable_calls, after_calls}
use Rattle.klp_model.specs.ModuleCalls.{Part, parts, part_refuses, coming_calls, going_calls}
use Rattle.klp_model.specs.ShadowStep.{shadow_changed}
use Rattle.klp_model.specs.Step.{accepted}
use Rattle.klp_model.specs.Refusals.{refusals, same_bool, moves_out}
use Rattle.klp_model.specs.Enabling.{enabled_or_gone, turned_or_started, move_to}
use Rattle.klp_model.specs.Completing.{without_older, completed_or_pending, polled}
use Rattle.klp_model.specs.ModuleStep.{come_or_refused, gone}
use Rattle.klp_model.specs.TaskStep.{change_task, new_task, state_wanted, exited}
use Rattle.klp_model.specs.Allowed.{is_one_of, MovesOneOf, is_right_state, is_right_task, are_right_frames, Allowed}
use Rattle.klp_model.proofs.ShadowLemmas.{shadow_installed}
use Rattle.klp_model.specs.Refusals.{NoneHolds}
use Rattle.klp_model.proofs.OrderLemmas.{numbers, left_out, from_on, numbers-taken_out, numbers-from_patch, numbers-after_calls}
use Rattle.klp_model.proofs.TaskLemmas as tasks
use Rattle.klp_model.proofs.AllowedLemmas.{left_out-put, other_refuses, put_last, away, still}
use Rattle.klp_model.specs.Observed.{Frame, Stacks, with_frames, versions, begun, is_frame_in, IsHonestEvent}
use Rattle.klp_model.specs.InPlace.{IsInPlace}
use Rattle.klp_model.specs.Consistent.{AreCurrent}
use Rattle.klp_model.proofs.VersionLemmas.{version_for}
use Rattle.klp_model.proofs.PickLemmas.{now, current, carry_one, carry, enabling, disabling, turning, leaving, settling, replacing, zero_or_one, all_free}
use Rattle.klp_model.proofs.PlacedLemmas.{placed}

-- what mode and recorded frames say of the frames: a task in user space has none, and a sleeper's are recorded
abbrev pub RightMode : Mode → List Version → List Frame → Type 0
RightMode User recorded frames = frames ≡ []
RightMode Kernel recorded frames = Unit {0}
RightMode Asleep recorded frames = recorded ≡ versions frames

abbrev pub IsKept : Setting → State → Option Task → List Frame → Type 0
IsKept setting state None frames = frames ≡ []
IsKept setting state (Some task) frames = AreCurrent (now setting state task.state) frames × RightMode task.mode task.frames frames

-- the invariant
abbrev pub Kept : Setting → State → Stacks → Type 0
Kept setting state stacks = (number : ℕ) → IsKept setting state (task_at state.tasks number) (stacks number)

-- rows of tasks
mapped_at : (f : Task → Task) (tasks : Tasks) (number : ℕ) → task_at (map (option_map f) tasks) number ≡ option_map f (task_at tasks number)
mapped_at f [] number = refl
mapped_at f (first ∷ tasks) zero = refl
mapped_at f (first ∷ tasks) (suc number) = mapped_at f tasks number

set_here : (tasks : Tasks) (number : ℕ) (task : Option Task)
    → (task_at (slice_set tasks number task) number ≡ task) ⊎ ((task_at (slice_set tasks number task) number ≡ None) × (task_at tasks number ≡ None))
set_here [] number task = inr (refl, refl)
set_here (first ∷ tasks) zero task = inl refl
set_here (first ∷ tasks) (suc number) task = set_here tasks number task

set_there : (tasks : Tasks) (number other : ℕ) (task : Option Task) → (other == number) ≡ false → task_at (slice_set tasks number task) other ≡ task_at tasks other
set_there [] number other task apart = refl
set_there (first ∷ tasks) zero zero task apart = cc
set_there (first ∷ tasks) zero (suc other) task apart = refl
set_there (first ∷ tasks) (suc number) zero task apart = refl
set_there (first ∷ tasks) (suc number) (suc other) task apart = set_there tasks number other task (by (other == number) refl)
  where
    by : (t : Bool) → (other == number) ≡ t → (other == number) ≡ false
    by true is = absurd (both_ways (suc other == suc number) apart (eq-eqb (suc other) (suc number) (ap suc (eqb-true other number is))))
    by false is = is

none_lags : (test : Option Task → Bool) → test None ≡ false → (tasks : Tasks) → length (filter test tasks) ≡ 0 → (number : ℕ) → test (task_at tasks number) ≡ false
none_lags test nobody [] none number = nobody
none_lags test nobody (first ∷ tasks) none number = by (test first) refl none (none_lags test nobody tasks) number
  where
    by : (t : Bool) → test first ≡ t → length (cond t (first ∷ filter test tasks) (filter test tasks)) ≡ 0
        → (length (filter test tasks) ≡ 0 → (number : ℕ) → test (task_at tasks number) ≡ false) → (number : ℕ) → test (task_at (first ∷ tasks) number) ≡ false
    by true is none rest number = cc
    by false is none rest zero = is
    by false is none rest (suc number) = rest none number

at_the_target : (target : Bool) (state : ℤ) → not (is_at target state) ≡ false → state ≡ at_target target
at_the_target true (pos n) e = ap pos (eqb-true n 1 (not-false (n == 1) e))
at_the_target false (pos n) e = ap pos (eqb-true n 0 (not-false (n == 0) e))
at_the_target true (negsuc n) e = cc
at_the_target false (negsuc n) e = cc

flag_kept : (flags : List Bool) (m n : ℕ) → slice_index_or flags n false ≡ true → slice_index_or (slice_set flags m true) n false ≡ true
flag_kept [] m n e = e
flag_kept (flag ∷ flags) zero zero e = refl
flag_kept (flag ∷ flags) zero (suc n) e = e
flag_kept (flag ∷ flags) (suc m) zero e = e
flag_kept (flag ∷ flags) (suc m) (suc n) e = flag_kept flags m n e

other_flag_kept : (flags : List Bool) (m n : ℕ) → (n == m) ≡ false → slice_index_or flags n false ≡ true → slice_index_or (slice_set flags m false) n false ≡ true
other_flag_kept [] m n apart e = e
other_flag_kept (flag ∷ flags) zero zero apart e = cc
other_flag_kept (flag ∷ flags) zero (suc n) apart e = e
other_flag_kept (flag ∷ flags) (suc m) zero apart e = e
other_flag_kept (flag ∷ flags) (suc m) (suc n) apart e = other_flag_kept flags m n (by (n == m) refl) e
  where
    by : (t : Bool) → (n == m) ≡ t → (n == m) ≡ false
    by true is = absurd (both_ways (suc n == suc m) apart (eq-eqb (suc n) (suc m) (ap suc (eqb-true n m is))))
    by false is = is

no_frames : (now_ : ℕ → Option Version) (frames : List Frame) → frames ≡ [] → AreCurrent now_ frames
no_frames now_ frames e = subst (AreCurrent now_) (sym e) tt

asleep_frames : (mode : Mode) (recorded : List Version) (frames : List Frame) → is_mode mode Asleep ≡ true → RightMode mode recorded frames → recorded ≡ versions frames
asleep_frames User recorded frames is right = cc
asleep_frames Kernel recorded frames is right = cc
asleep_frames Asleep recorded frames is right = right

user_frames : (mode : Mode) (recorded : List Version) (frames : List Frame) → is_mode mode User ≡ true → RightMode mode recorded frames → frames ≡ []
user_frames User recorded frames is right = right
user_frames Kernel recorded frames is right = cc
user_frames Asleep recorded frames is right = cc

module _ (setting : Setting) where
  -- the tasks' states change, all alike
  kept_all : (before after : State) (x : ℤ) (stacks : Stacks) → after.tasks ≡ all_in x before.tasks
      → ((number : ℕ) (task : Task) → task_at before.tasks number ≡ Some task → AreCurrent (now setting before task.state) (stacks number) → AreCurrent (now setting after x) (stacks number))
      → Kept setting before stacks → Kept setting after stacks
  kept_all before after x stacks are goes kept number =
      subst (λ t. IsKept setting after t (stacks number)) (sym (ap (λ ts. task_at ts number) are ∙ mapped_at (in_state x) before.tasks number)) (one (task_at before.tasks number) refl (kept number))
    where
      one : (task : Option Task) → task_at before.tasks number ≡ task → IsKept setting before task (stacks number) → IsKept setting after (option_map (in_state x) task) (stacks number)
      one None is k = k
      one (Some task) is k = (goes number task is k.0, k.1)

  -- the tasks stay
  kept_same : (before after : State) (stacks : Stacks) → after.tasks ≡ before.tasks
      → ((number : ℕ) (task : Task) → AreCurrent (now setting before task.state) (stacks number) → AreCurrent (now setting after task.state) (stacks number))
      → Kept setting before stacks → Kept setting after stacks
  kept_same before after stacks are goes kept number =
      subst (λ t. IsKept setting after t (stacks number)) (sym (ap (λ ts. task_at ts number) are)) (one (task_at before.tasks number) (kept number))
    where
      one : (task : Option Task) → IsKept setting before task (stacks number) → IsKept setting after task (stacks number)
      one None k = k
      one (Some task) k = (goes number task k.0, k.1)

  with_other_tasks : (state : State) (others : Tasks) (task : Option Task) (frames : List Frame) → IsKept setting state task frames → IsKept setting (with_tasks state others) task frames
  with_other_tasks state others None frames k = k
  with_other_tasks state others (Some task) frames k = k

  -- the row and the frames of one task change
  pub kept_put : (state : State) (stacks after : Stacks) (number : ℕ) (task : Option Task) → IsKept setting state task (after number)
      → (task_at state.tasks number ≡ None → after number ≡ []) → ((other : ℕ) → (other == number) ≡ false → after other ≡ stacks other)
      → Kept setting state stacks → Kept setting (with_tasks state (slice_set state.tasks number task)) after
  kept_put state stacks after number task own gone_ rest kept other = by (other == number) refl
    where
      here : (task_at (slice_set state.tasks number task) number ≡ task) ⊎ ((task_at (slice_set state.tasks number task) number ≡ None) × (task_at state.tasks number ≡ None))
          → IsKept setting (with_tasks state (slice_set state.tasks number task)) (task_at (slice_set state.tasks number task) number) (after number)
      here (inl e) = subst (λ t. IsKept setting (with_tasks state (slice_set state.tasks number task)) t (after number)) (sym e) (with_other_tasks state (slice_set state.tasks number task) task (after number) own)
      here (inr e) = subst (λ t. IsKept setting (with_tasks state (slice_set state.tasks number task)) t (after number)) (sym e.0) (gone_ e.1)

      by : (t : Bool) → (other == number) ≡ t → IsKept setting (with_tasks state (slice_set state.tasks number task)) (task_at (slice_set state.tasks number task) other) (after other)
      by true is =
          subst (λ n. IsKept setting (with_tasks state (slice_set state.tasks number task)) (task_at (slice_set state.tasks number task) n) (after n)) (sym (eqb-true other number is))
          (here (set_here state.tasks number task))
      by false is =
          subst (λ t. IsKept setting (with_tasks state (slice_set state.tasks number task)) t (after other)) (sym (set_there state.tasks number other task is))
          (subst (λ fs. IsKept setting (with_tasks state (slice_set state.tasks number task)) (task_at state.tasks other) fs) (sym (rest other is))
          (with_other_tasks state (slice_set state.tasks number task) (task_at state.tasks other) (stacks other) (kept other)))

  module _ (state : State) (allowed : Allowed setting state) (stacks : Stacks) (kept : Kept setting state stacks) where
    abbrev ps : List ℕ
    ps = installed_patches state

    -- another world with the same installed patches
    kept_world : (world : World) → numbers world.installed ≡ ps → Kept setting (with_world state world) stacks
    kept_world world same =
        kept_same state (with_world state world) stacks refl
        (λ number task are. carry setting state (with_world state world) task.state task.state (λ site l. l)
        (λ site. ap (λ qs. version_for setting state.moving qs task.state site) (sym same)) (stacks number) are) kept

    -- Enable
    module _ (patch : ℕ) (open_ : NoneHolds (refusals setting state (Enable patch))) where
      abbrev objects : List (ℕ × PatchObject)
      objects = loaded_objects setting state patch

      abbrev before : World
      before = with_patch state.world patch (state_ids setting patch)

      abbrev after_pre : World
      after_pre = after_calls before (enable_calls patch objects)

      enable_kept : (found : Option (ℕ × PatchObject)) → Kept setting (enabled_or_gone state patch after_pre found).1 stacks
      enable_kept None =
          let after = record state { world = after_pre; moving = move_to patch true; tasks = all_in (at_target false) state.tasks } in
          kept_all state after (pos 0) stacks refl
          (λ number task is are. carry setting state after task.state (pos 0) (λ site l. l)
          (λ site. ap (λ m. version_for setting m ps task.state site) (still setting state allowed patch open_) ∙ enabling setting patch true ps task.state site allowed.distinct (away setting state allowed patch open_)
          ∙ ap (λ qs. version_for setting (move_to patch true) qs (pos 0) site) (sym (put_last setting state allowed patch open_))) (stacks number) are) kept
      enable_kept (Some object) =
          kept_world (without_patch after_pre patch) (numbers-taken_out patch after_pre.installed ∙ ap (left_out patch) (put_last setting state allowed patch open_) ∙ left_out-put patch ps (away setting state allowed patch open_))

    -- SetEnabled
    module _ (patch : ℕ) (value : Bool) where
      abbrev started : List Call
      started = calls_of patch PreUn (loaded_objects setting state patch)

      set_enabled_kept : (moving : Option Transition) → state.moving ≡ moving → same_bool value (not (moves_out moving patch)) ≡ false
          → (not value && is_some moving && not (moves moving patch)) ≡ false → (t : Bool) → moves moving patch ≡ t → Kept setting (turned_or_started setting state patch value t).1 stacks
      set_enabled_kept None is same busy true e = absurd (both_ways true (sym e) refl)
      set_enabled_kept None is same busy false e =
          let world = after_calls state.world started in
          let after = record state { world = world; moving = move_to patch false; tasks = all_in (at_target true) state.tasks } in
          kept_all state after (pos 1) stacks refl
          (λ number task there are. carry setting state after task.state (pos 1) (λ site l. l)
          (λ site. ap (λ m. version_for setting m ps task.state site) is ∙ disabling setting (move_to patch false) ps task.state site
          ∙ ap (λ qs. version_for setting (move_to patch false) qs (pos 1) site) (sym (numbers-after_calls state.world started))) (stacks number) are) kept
      set_enabled_kept (Some m) is same busy true e =
          let after = record state { moving = move_to patch value } in
          kept_same state after stacks refl
          (λ number task are. carry setting state after task.state task.state (λ site l. l)
          (λ site. ap (λ o. version_for setting o ps task.state site) is ∙ turning setting m (record { patch = patch; target = value }) ps task.state site (eqb-true m.patch patch e)) (stacks number) are) kept
      set_enabled_kept (Some m) is same busy false e = absurd (other_refuses patch value m e same busy)

    -- Poll
    module _ (m : Transition) (is : state.moving ≡ Some m) where
      right_state : (number : ℕ) (task : Task) → task_at state.tasks number ≡ Some task → (task.state ≡ pos 1) ⊎ (task.state ≡ pos 0)
      right_state number task there =
          zero_or_one (Some m) task.state
          (subst (λ o. is_right_state o task.state ≡ true) is
          (and_parts (is_right_state state.moving task.state) (are_right_frames setting task)
          (ap (is_right_task setting state.moving) (sym there) ∙ tasks.right_at setting state.moving state.tasks number allowed.tasks)).0)

      switch_kept : (number : ℕ) (task : Task) → task_at state.tasks number ≡ Some task → IsKept setting state (Some task) (stacks number)
          → IsKept setting state (Some (switched (blocked setting state m) m.target task)) (stacks number)
      switch_kept number task there k = by (is_mode task.mode Asleep) refl (is_held (blocked setting state m) task.frames) refl
        where
          by : (a : Bool) → is_mode task.mode Asleep ≡ a → (h : Bool) → is_held (blocked setting state m) task.frames ≡ h
              → IsKept setting state (Some (if a && not h then in_state (at_target m.target) task else task)) (stacks number)
          by true asleep false free = (
            all_free setting state m is task.state (stacks number) (right_state number task there) k.0
                (subst (λ fs. is_held (blocked setting state m) fs ≡ false) (asleep_frames task.mode task.frames (stacks number) asleep k.1) free),
            k.1,
          )
          by true asleep true held = k
          by false awake h held = k

      try_kept : (number : ℕ) (task : Option Task) → task_at state.tasks number ≡ task → IsKept setting state task (stacks number)
          → IsKept setting state (option_map (switched (blocked setting state m) m.target) task) (stacks number)
      try_kept number None there k = k
      try_kept number (Some task) there k = switch_kept number task there k

      tried_kept : (number : ℕ) → IsKept setting state (task_at (tried setting state m) number) (stacks number)
      tried_kept number =
          subst (λ t. IsKept setting state t (stacks number)) (sym (mapped_at (switched (blocked setting state m) m.target) state.tasks number))
          (try_kept number (task_at state.tasks number) refl (kept number))

      pending_kept : Kept setting (with_tasks state (tried setting state m)) stacks
      pending_kept number = with_other_tasks state (tried setting state m) (task_at (tried setting state m) number) (stacks number) (tried_kept number)

      -- all tasks are at the target
      all_there : pending setting state m ≡ 0 → (number : ℕ) (task : Task) → task_at state.tasks number ≡ Some task → AreCurrent (now setting state (at_target m.target)) (stacks number)
      all_there none number task there =
          let s = switched (blocked setting state m) m.target task in
          let at : task_at (tried setting state m) number ≡ Some s = mapped_at (switched (blocked setting state m) m.target) state.tasks number ∙ ap (option_map (switched (blocked setting state m) m.target)) there in
          let not_lagging = none_lags (lags m.target) refl (tried setting state m) (length-filter (lags m.target) (tried setting state m) ∙ none) number in
          let arrived = at_the_target m.target s.state (sym (ap (lags m.target) at) ∙ not_lagging) in
          let k = subst (λ t. IsKept setting state t (stacks number)) there (kept number) in
          subst (λ x. AreCurrent (now setting state x) (stacks number)) arrived (switch_kept number task there k).0

      abbrev ended : World
      ended = after_calls state.world (end_calls setting state (Some m))

      ended_same : numbers ended.installed ≡ ps
      ended_same = numbers-after_calls state.world (end_calls setting state (Some m))

      abbrev settled_in : World → State
      settled_in world = record state { world = world; moving = None; tasks = all_in at_rest state.tasks }

      settle : pending setting state m ≡ 0 → (world : World) (patches : List ℕ) → numbers world.installed ≡ patches
          → ((site : ℕ) → version_for setting (Some m) ps (at_target m.target) site ≡ version_for setting None patches at_rest site) → Kept setting (settled_in world) stacks
      settle none world patches same versions_ =
          kept_all state (settled_in world) at_rest stacks refl
          (λ number task there are. carry setting state (settled_in world) (at_target m.target) at_rest (λ site l. l)
          (λ site. ap (λ o. version_for setting o ps (at_target m.target) site) is ∙ versions_ site ∙ ap (λ qs. version_for setting None qs at_rest site) (sym same))
          (stacks number) (all_there none number task there)) kept

      there_is : is_one_of m.patch ps ≡ true
      there_is = subst (λ o. MovesOneOf o ps) is allowed.moving

      older_left : pending setting state m ≡ 0 → (target : Bool) → m.target ≡ target → (replace : Bool) → replaces setting m.patch ≡ replace
          → Kept setting (settled_in (if target then without_older replace ended m.patch else without_patch ended m.patch)) stacks
      older_left none true is_target true e =
          settle none (without_older true ended m.patch) (from_on m.patch ps) (numbers-from_patch m.patch ended.installed ∙ ap (from_on m.patch) ended_same)
          (λ site. ap (λ t. version_for setting (Some m) ps (at_target t) site) is_target ∙ replacing setting m ps at_rest site e there_is)
      older_left none true is_target false e =
          settle none ended ps ended_same (λ site. ap (λ t. version_for setting (Some m) ps (at_target t) site) is_target ∙ settling setting m ps at_rest site)
      older_left none false is_target replace e =
          settle none (without_patch ended m.patch) (left_out m.patch ps) (numbers-taken_out m.patch ended.installed ∙ ap (left_out m.patch) ended_same)
          (λ site. ap (λ t. version_for setting (Some m) ps (at_target t) site) is_target ∙ leaving setting m ps at_rest site allowed.distinct)

      poll_kept_by : (left : ℕ) → pending setting state m ≡ left → Kept setting (completed_or_pending setting state m (tried setting state m) left).1 stacks
      poll_kept_by zero none = older_left none m.target refl (replaces setting m.patch) refl
      poll_kept_by (suc left) some = pending_kept

    poll_kept : (moving : Option Transition) → state.moving ≡ moving → Kept setting (polled setting state moving).1 stacks
    poll_kept None is = kept
    poll_kept (Some m) is = poll_kept_by m is (pending setting state m) refl

    -- Coming and Going
    module _ (object : ℕ) where
      loaded_came : (world : World) (o : Option ℕ) → is_object_loaded state o ≡ true → is_object_loaded (record (with_world state world) { loaded = slice_set state.loaded object true }) o ≡ true
      loaded_came world None e = e
      loaded_came world (Some o) e = flag_kept state.loaded object o e

      come_kept : (found : Option Part) → Kept setting (come_or_refused (with_world state (after_calls state.world (coming_calls state.moving (parts setting state object)))) object found).1 stacks
      come_kept None =
          let world = after_calls state.world (coming_calls state.moving (parts setting state object)) in
          let after = record (with_world state world) { loaded = slice_set state.loaded object true } in
          kept_same state after stacks refl
          (λ number task are. carry setting state after task.state task.state (λ site l. loaded_came world (object_of setting.image.objects site) l)
          (λ site. ap (λ qs. version_for setting state.moving qs task.state site) (sym (numbers-after_calls state.world (coming_calls state.moving (parts setting state object)))))
          (stacks number) are) kept
      come_kept (Some part) = kept_world (after_calls state.world (coming_calls state.moving (parts setting state object))) (numbers-after_calls state.world (coming_calls state.moving (parts setting state object)))

      module _ (in_place : IsInPlace setting) where
        abbrev went : World
        went = after_calls state.world (going_calls state.moving (parts setting state object))

        abbrev without : State
        without = record (with_world state went) { loaded = slice_set state.loaded object false }

        loaded_went : (o : Option ℕ) → is_object object o ≡ false → is_object_loaded state o ≡ true → is_object_loaded without o ≡ true
        loaded_went None apart e = e
        loaded_went (Some o) apart e = other_flag_kept state.loaded object o apart e

        go_frames : (task : ℤ) (frames : List Frame) → list_any (is_frame_in setting object) frames ≡ false → AreCurrent (now setting state task) frames → AreCurrent (now setting without task) frames
        go_frames task [] out are = tt
        go_frames task (frame ∷ frames) out are =
            let parts_ = or_parts (is_frame_in setting object frame) (list_any (is_frame_in setting object) frames) out in
            let version = (current setting (is_site_loaded setting state frame.site) state.moving ps task frame.site frame.version are.0).1 in
            let home = ap (is_object object) (sym (placed setting frame.site in_place state.moving ps task allowed.distinct) ∙ ap (object_of_version setting) version) ∙ parts_.0 in (
              carry_one setting (is_site_loaded setting state frame.site) state.moving ps task frame.site (is_site_loaded setting without frame.site) state.moving (numbers went.installed) task frame.version
                  (λ l. loaded_went (object_of setting.image.objects frame.site) home l)
                  (ap (λ qs. version_for setting state.moving qs task frame.site) (sym (numbers-after_calls state.world (going_calls state.moving (parts setting state object))))) are.0,
              go_frames task frames parts_.1 are.1,
            )

        go_kept : ((number : ℕ) → list_any (is_frame_in setting object) (stacks number) ≡ false) → Kept setting (gone setting state object).1 stacks
        go_kept honest = kept_same state without stacks refl (λ number task are. go_frames task.state (stacks number) (honest number) are) kept

    -- one task
    change_kept : (number : ℕ) (f : Task → Task) (task : Option Task) → task_at state.tasks number ≡ task
        → ((t : Task) → task ≡ Some t → IsKept setting state (Some t) (stacks number) → IsKept setting state (Some (f t)) (stacks number))
        → Kept setting (change_task state number f task) stacks
    change_kept number f None is goes = kept
    change_kept number f (Some t) is goes =
        kept_put state stacks stacks number (Some (f t)) (goes t refl (subst (λ o. IsKept setting state o (stacks number)) is (kept number)))
        (λ none. subst (λ o. IsKept setting state o (stacks number)) none (kept number)) (λ other apart. refl) kept

    begun_here : (number : ℕ) → with_frames stacks number [] number ≡ []
    begun_here number = ap (λ b. if b then [] else stacks number) (eq-eqb number number refl)

    begun_there : (number other : ℕ) → (other == number) ≡ false → with_frames stacks number [] other ≡ stacks other
    begun_there number other apart = ap (λ b. if b then [] else stacks other) apart

    fresh_kept : (number : ℕ) (task : Task) → RightMode task.mode task.frames [] → Kept setting (with_tasks state (slice_set state.tasks number (Some task))) (with_frames stacks number [])
    fresh_kept number task right =
        kept_put state stacks (with_frames stacks number []) number (Some task) (subst (λ fs. IsKept setting state (Some task) fs) (sym (begun_here number)) (tt, right))
        (λ none. begun_here number) (begun_there number) kept

    exit_kept : (t : Task) (frames : List Frame) (moving : Option Transition) → frames ≡ [] → IsKept setting state (Some (exited moving t)) frames
    exit_kept t frames None none = (no_frames (now setting state t.state) frames none, none)
    exit_kept t frames (Some m) none = (no_frames (now setting state (at_target m.target)) frames none, none)

    -- each accepted event keeps the invariant
    pub kept_event : (event : Event) → IsInPlace setting → NoneHolds (refusals setting state event) → IsHonestEvent setting stacks event → Kept setting (accepted setting state event).1 (begun event stacks)
    kept_event (Enable patch) place open_ honest = enable_kept patch open_ (find refuses (loaded_objects setting state patch))
    kept_event (SetEnabled patch value) place open_ honest = set_enabled_kept patch value state.moving refl open_.1.1.0 open_.1.1.1.0 (moves state.moving patch) refl
    kept_event (Force patch) place open_ honest = absurd honest
    kept_event Poll place open_ honest = poll_kept state.moving refl
    kept_event (Coming object) place open_ honest = come_kept object (find part_refuses (parts setting state object))
    kept_event (Going object) place open_ honest = go_kept object place honest
    kept_event (NewTask task) place open_ honest = fresh_kept task (new_task (state_wanted state.moving)) refl
    kept_event (Fork parent child) place open_ honest = fresh_kept child _ tt
    kept_event (EndTask task) place open_ honest = kept_put state stacks stacks task None honest (λ none. honest) (λ other apart. refl) kept
    kept_event (EnterKernel task) place open_ honest = change_kept task _ (task_at state.tasks task) refl (λ t is k. (k.0, tt))
    kept_event (ExitToUser task) place open_ honest = change_kept task _ (task_at state.tasks task) refl (λ t is k. exit_kept t (stacks task) state.moving honest)
    kept_event (Sleep task frames) place open_ honest = change_kept task _ (task_at state.tasks task) refl (λ t is k. (k.0, honest))
    kept_event (Wake task) place open_ honest = change_kept task _ (task_at state.tasks task) refl (λ t is k. (k.0, tt))
    kept_event (ShadowAlloc key value) place open_ honest = kept_world (shadow_changed state.world (ShadowAlloc key value)) (ap numbers (shadow_installed state.world (ShadowAlloc key value)))
    kept_event (ShadowGetOrAlloc key value) place open_ honest = kept_world (shadow_changed state.world (ShadowGetOrAlloc key value)) (ap numbers (shadow_installed state.world (ShadowGetOrAlloc key value)))
    kept_event (ShadowFree key) place open_ honest = kept_world (shadow_changed state.world (ShadowFree key)) (ap numbers (shadow_installed state.world (ShadowFree key)))
    kept_event (ShadowFreeAll id) place open_ honest = kept_world (shadow_changed state.world (ShadowFreeAll id)) (ap numbers (shadow_installed state.world (ShadowFreeAll id)))
