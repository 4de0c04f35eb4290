-- A step keeps a state allowed.
use Rattle.std.proofs.Common.{◌≡◌, ℕ, zero, suc, ◌+◌, ◌-◌, ◌≤◌, ◌<◌, Bool, true, false, not, ◌&&◌, cond, List, [], ◌∷◌, ◌++◌, map, length, Option, Some, None, is_some, is_none, refl, sym, ap, subst, ◌∙◌, arith}
use Rattle.std.specs.Prelude.{◌==◌, nat_lt, slice_set, if◌then◌else◌}
use Rattle.std.specs.List.{find}
use Rattle.std.specs.FinMap as finite
use Rattle.std.proofs.lemmas.Bool.{eq-eqb, eqb-true, leb-false, or_parts, both_ways, not-false}
use Rattle.std.proofs.lemmas.List.{length-map, length-set}
use Rattle.klp_types.specs.declared.limits.TheConstants.{MAX_VARIABLES}
use Rattle.klp_types.specs.declared.shadow.ShadowKey.{ShadowKey}
use Rattle.klp_types.specs.declared.task.Mode.TheVariants.{User, Kernel}
use Rattle.klp_model.specs.declared.event.Event.{Event}
use Rattle.klp_model.specs.declared.event.Event.TheVariants.{Enable, SetEnabled, Force, Poll, Coming, Going, NewTask, Fork, EndTask, EnterKernel, ExitToUser, Sleep, Wake, ShadowAlloc, ShadowGetOrAlloc, ShadowFree, ShadowFreeAll}
use Rattle.klp_types.specs.declared.callback.Which.TheVariants.{PreUn}
use Rattle.klp_types.specs.declared.version.Transition.{Transition}
use Rattle.klp_types.specs.Setting.{Setting, PatchObject, replaces, state_ids}
use Rattle.klp_types.specs.World.{World, ShadowValue, variable, with_patch, without_patch}
use Rattle.klp_types.specs.Script.{allocated}
use Rattle.klp_types.specs.declared.task.Task.{Task}
use Rattle.klp_model.specs.Task.{Tasks, task_at, is_in, at_rest, at_target, all_in}
use Rattle.klp_model.specs.State.{State, is_loaded, installed_patches, is_installed, with_world, with_tasks}
use Rattle.klp_types.specs.Pick.{moves}
use Rattle.klp_model.specs.Blocked.{blocked, tried, pending}
use Rattle.klp_types.specs.Callbacks.{Call, calls_of, refuses, enable_calls, after_calls, allocs_of}
use Rattle.klp_model.specs.Callbacks.{loaded_objects, end_calls}
use Rattle.klp_model.specs.ModuleCalls.{Part, parts, part_refuses, coming_calls, going_calls}
use Rattle.klp_model.specs.EventCalls.{lacks_room}
use Rattle.klp_model.specs.ShadowStep.{shadow_changed}
use Rattle.klp_model.specs.Step.{accepted}
use Rattle.klp_model.specs.Refusals.{has_patch, is_full, accepts, refusals, same_bool, moves_out, is_there}
use Rattle.klp_model.specs.Enabling.{enabled_or_gone, turned_or_started, move_to}
use Rattle.klp_model.specs.Forcing.{forced, pin_all, pinned_by}
use Rattle.klp_model.specs.Completing.{without_older, completed_or_pending, polled}
use Rattle.klp_model.specs.ModuleStep.{come_or_refused, gone}
use Rattle.klp_model.specs.TaskStep.{change_task, new_task, state_wanted}
use Rattle.klp_model.specs.Run.{next}
use Rattle.klp_model.specs.Allowed.{is_one_of, AreKnown, AreDistinct, MovesOneOf, AreStacked, NoneLacks, is_right_state, is_right_task, AreRight, Allowed}
use Rattle.klp_types.proofs.KeyLemmas.{key_total, few_kept}
use Rattle.klp_model.proofs.ShadowLemmas.{shadow_installed}
use Rattle.klp_model.specs.Refusals.{NoneHolds}
use Rattle.klp_model.proofs.RefusalLemmas.{none_holds, next_accepted}
use Rattle.klp_model.proofs.OrderLemmas.{numbers, left_out, from_on, numbers-put, numbers-taken_out, numbers-from_patch, numbers-after_calls, one_of-numbers, one_of-put, known-put, known-left_out, known-from_on, distinct-put, distinct-left_out, distinct-from_on, stacked_started, stacked_put, stacked_turned, stacked_left_out, stacked_from_on, stacked_settled}
use Rattle.klp_model.proofs.RoomLemmas.{room_after, few_enabled, few_coming, few_going}
use Rattle.klp_model.proofs.TaskLemmas as tasks
use Rattle.klp_model.proofs.SymbolLemmas.{set_false, first_set_true, first_set_false, came, fewer, lacks-put}

pub nothing_there : {A : Type 0} (o : Option A) → is_some o ≡ false → o ≡ None
nothing_there None e = refl
nothing_there (Some x) e = cc

pub left_out-put : (patch : ℕ) (patches : List ℕ) → is_one_of patch patches ≡ false → left_out patch (patches ++ patch ∷ []) ≡ patches
left_out-put patch [] away = ap (λ b. cond b [] (patch ∷ [])) (eq-eqb patch patch refl)
left_out-put patch (first ∷ patches) away =
    let split = or_parts (first == patch) (is_one_of patch patches) away in
    ap (λ b. cond b (patches ++ patch ∷ []) (first ∷ left_out patch (patches ++ patch ∷ []))) split.0 ∙ ap (λ rest. first ∷ rest) (left_out-put patch patches split.1)

length-pin_all : (patches : List ℕ) (pinned : List Bool) → length (pin_all patches pinned) ≡ length pinned
length-pin_all [] pinned = refl
length-pin_all (patch ∷ patches) pinned = length-pin_all patches (slice_set pinned patch true) ∙ length-set pinned patch true

-- SetEnabled is refused where another patch moves
pub other_refuses : (patch : ℕ) (value : Bool) (m : Transition) → (m.patch == patch) ≡ false → same_bool value (not (m.patch == patch && not m.target)) ≡ false
    → (not value && true && not (m.patch == patch)) ≡ false → ⊥
other_refuses patch value m other same busy =
    by value (sym (ap (λ b. same_bool value (not (b && not m.target))) other) ∙ same) (sym (ap (λ b. not value && true && not b) other) ∙ busy)
  where
    by : (v : Bool) → same_bool v true ≡ false → (not v && true && true) ≡ false → ⊥
    by true same busy = both_ways true same refl
    by false same busy = both_ways true busy refl

module _ (setting : Setting) (state : State) (allowed : Allowed setting state) where
  abbrev ps : List ℕ
  ps = installed_patches state

  -- what is looked at of a next state whose installed patches have these numbers
  allowed_next : (after : State) (patches : List ℕ) → installed_patches after ≡ patches → is_loaded after 0 ≡ true → AreKnown setting patches → AreDistinct patches → MovesOneOf after.moving patches
      → AreStacked setting after.moving patches → NoneLacks setting after.loaded patches → AreRight setting after.moving after.tasks → finite.len after.world.shadow ≤ MAX_VARIABLES
      → length after.loaded ≡ length state.loaded → length after.tasks ≡ length state.tasks → length after.pinned ≡ length state.pinned → Allowed setting after
  allowed_next after patches is kernel known distinct moving stacked symbols right room objects rows flags = record {
    kernel = kernel;
    known = subst (AreKnown setting) (sym is) known;
    distinct = subst AreDistinct (sym is) distinct;
    moving = subst (MovesOneOf after.moving) (sym is) moving;
    stacked = subst (AreStacked setting after.moving) (sym is) stacked;
    symbols = subst (NoneLacks setting after.loaded) (sym is) symbols;
    tasks = right;
    room = room;
    objects = objects ∙ allowed.objects;
    rows = rows ∙ allowed.rows;
    flags = flags ∙ allowed.flags;
  }

  -- another world with the same installed patches
  allowed_world : (world : World) → numbers world.installed ≡ ps → finite.len world.shadow ≤ MAX_VARIABLES → Allowed setting (with_world state world)
  allowed_world world is room =
      allowed_next (with_world state world) ps is allowed.kernel allowed.known allowed.distinct allowed.moving allowed.stacked
      allowed.symbols allowed.tasks room refl refl refl

  allowed_tasks : (others : Tasks) → AreRight setting state.moving others → length others ≡ length state.tasks → Allowed setting (with_tasks state others)
  allowed_tasks others right rows =
      allowed_next (with_tasks state others) ps refl allowed.kernel allowed.known allowed.distinct allowed.moving allowed.stacked
      allowed.symbols right allowed.room refl rows refl

  -- Enable
  module _ (patch : ℕ) (open_ : NoneHolds (refusals setting state (Enable patch))) where
    abbrev objects : List (ℕ × PatchObject)
    objects = loaded_objects setting state patch

    abbrev before : World
    before = with_patch state.world patch (state_ids setting patch)

    abbrev after_pre : World
    after_pre = after_calls before (enable_calls patch objects)

    pub put_last : numbers after_pre.installed ≡ ps ++ patch ∷ []
    put_last = numbers-after_calls before (enable_calls patch objects) ∙ numbers-put state.world.installed (record { patch = patch; values = map (λ id. (id, 0)) (state_ids setting patch) })

    pub away : is_one_of patch ps ≡ false
    away = one_of-numbers patch state.world.installed ∙ open_.1.0

    pub still : state.moving ≡ None
    still = nothing_there state.moving open_.1.1.0

    room_there : finite.len after_pre.shadow ≤ MAX_VARIABLES
    room_there = room_after setting state (Enable patch) before (enable_calls patch objects) open_.1.1.1.1.1.1.0 refl (few_enabled patch objects)

    enable_allowed : (found : Option (ℕ × PatchObject)) → Allowed setting (enabled_or_gone state patch after_pre found).1
    enable_allowed None =
        let after = record state { world = after_pre; moving = move_to patch true; tasks = all_in (at_target false) state.tasks } in
        allowed_next after (ps ++ patch ∷ []) put_last allowed.kernel (known-put setting patch ps allowed.known (not-false (has_patch setting patch) open_.0)) (distinct-put patch ps allowed.distinct away) (one_of-put patch ps)
        (stacked_put setting patch true ps (subst (λ m. AreStacked setting m ps) still allowed.stacked))
        (lacks-put setting state.loaded patch ps allowed.symbols open_.1.1.1.1.1.0)
        (tasks.right_all setting state.moving (move_to patch true) (at_target false) state.tasks refl allowed.tasks) room_there refl (length-map state.tasks _) refl
    enable_allowed (Some object) =
        allowed_world (without_patch after_pre patch)
        (numbers-taken_out patch after_pre.installed ∙ ap (left_out patch) put_last ∙ left_out-put patch ps away) room_there

  -- SetEnabled
  module _ (patch : ℕ) (value : Bool) (open_ : NoneHolds (refusals setting state (SetEnabled patch value))) where
    there : is_one_of patch ps ≡ true
    there = one_of-numbers patch state.world.installed ∙ not-false (is_installed state patch) open_.1.0

    abbrev started : List Call
    started = calls_of patch PreUn (loaded_objects setting state patch)

    abbrev disabled_world : World
    disabled_world = after_calls state.world started

    set_enabled_allowed : (moving : Option Transition) → state.moving ≡ moving → same_bool value (not (moves_out moving patch)) ≡ false
        → (not value && is_some moving && not (moves moving patch)) ≡ false → (t : Bool) → moves moving patch ≡ t → Allowed setting (turned_or_started setting state patch value t).1
    set_enabled_allowed None is same busy true e = absurd (both_ways true (sym e) refl)
    set_enabled_allowed None is same busy false e =
        let after = record state { world = disabled_world; moving = move_to patch false; tasks = all_in (at_target true) state.tasks } in
        allowed_next after ps (numbers-after_calls state.world started) allowed.kernel allowed.known allowed.distinct there
        (stacked_started setting (move_to patch false) ps (subst (λ m. AreStacked setting m ps) is allowed.stacked))
        allowed.symbols
        (tasks.right_all setting state.moving (move_to patch false) (at_target true) state.tasks refl allowed.tasks)
        (room_after setting state (SetEnabled patch value) state.world started open_.1.1.1.1.0 refl
        (subst (λ o. allocs_of started ≤ allocs_of (if moves o patch then [] else started)) (sym is) (omega arith))) refl (length-map state.tasks _) refl
    set_enabled_allowed (Some m) is same busy true e =
        let after = record state { moving = move_to patch value } in
        allowed_next after ps refl allowed.kernel allowed.known allowed.distinct there
        (subst (λ p. AreStacked setting (Some (record { patch = p; target = value })) ps) (eqb-true m.patch patch e)
        (stacked_turned setting m value ps (subst (λ m. AreStacked setting m ps) is allowed.stacked)))
        allowed.symbols
        (tasks.right_turned setting m (record { patch = patch; target = value }) state.tasks (subst (λ m. AreRight setting m state.tasks) is allowed.tasks))
        allowed.room refl refl refl
    set_enabled_allowed (Some m) is same busy false e = absurd (other_refuses patch value m e same busy)

  -- Force
  force_allowed : (moving : Option Transition) → state.moving ≡ moving → Allowed setting (forced setting state moving).1
  force_allowed None is = allowed
  force_allowed (Some m) is =
      let after = record state { tasks = all_in (at_target m.target) state.tasks; pinned = pin_all (pinned_by setting state m) state.pinned } in
      allowed_next after ps refl allowed.kernel allowed.known allowed.distinct allowed.moving allowed.stacked allowed.symbols
      (tasks.right_all setting state.moving state.moving (at_target m.target) state.tasks (subst (λ o. is_right_state o (at_target m.target) ≡ true) (sym is) (tasks.wanted_right (Some m))) allowed.tasks)
      allowed.room refl (length-map state.tasks _) (length-pin_all (pinned_by setting state m) state.pinned)

  -- Poll
  module _ (m : Transition) (is : state.moving ≡ Some m) (enough : lacks_room setting state Poll ≡ false) where
    abbrev ended : World
    ended = after_calls state.world (end_calls setting state (Some m))

    pub ended_same : numbers ended.installed ≡ ps
    ended_same = numbers-after_calls state.world (end_calls setting state (Some m))

    ended_room : finite.len ended.shadow ≤ MAX_VARIABLES
    ended_room = room_after setting state Poll state.world (end_calls setting state (Some m)) enough refl (subst (λ o. allocs_of (end_calls setting state (Some m)) ≤ allocs_of (end_calls setting state o)) (sym is) (omega arith))

    was_stacked : AreStacked setting (Some m) ps
    was_stacked = subst (λ o. AreStacked setting o ps) is allowed.stacked

    abbrev settled_in : World → State
    settled_in world = record state { world = world; moving = None; tasks = all_in at_rest state.tasks }

    settle : (world : World) (patches : List ℕ) → numbers world.installed ≡ patches → AreKnown setting patches → AreDistinct patches → AreStacked setting None patches → NoneLacks setting state.loaded patches
        → finite.len world.shadow ≤ MAX_VARIABLES → Allowed setting (settled_in world)
    settle world patches same known distinct stacked symbols room =
        allowed_next (settled_in world) patches same allowed.kernel known distinct tt stacked symbols
        (tasks.right_all setting state.moving None at_rest state.tasks refl allowed.tasks) room refl (length-map state.tasks _) refl

    lacks_left_out : (patches : List ℕ) → NoneLacks setting state.loaded patches → NoneLacks setting state.loaded (left_out m.patch patches)
    lacks_left_out [] was = tt
    lacks_left_out (first ∷ patches) was = by (first == m.patch) (lacks_left_out patches was.1)
      where
        by : (t : Bool) → NoneLacks setting state.loaded (left_out m.patch patches) → NoneLacks setting state.loaded (cond t patches (first ∷ left_out m.patch patches))
        by true rest = was.1
        by false rest = (was.0, rest)

    lacks_from_on : (patches : List ℕ) → NoneLacks setting state.loaded patches → NoneLacks setting state.loaded (from_on m.patch patches)
    lacks_from_on [] was = tt
    lacks_from_on (first ∷ patches) was = by (first == m.patch) (lacks_from_on patches was.1)
      where
        by : (t : Bool) → NoneLacks setting state.loaded (from_on m.patch patches) → NoneLacks setting state.loaded (cond t (first ∷ patches) (from_on m.patch patches))
        by true rest = was
        by false rest = rest

    older_left : (replace : Bool) → replaces setting m.patch ≡ replace → Allowed setting (settled_in (without_older replace ended m.patch))
    older_left true e =
        settle (without_older true ended m.patch) (from_on m.patch ps) (numbers-from_patch m.patch ended.installed ∙ ap (from_on m.patch) ended_same)
        (known-from_on setting m.patch ps allowed.known) (distinct-from_on m.patch ps allowed.distinct) (stacked_from_on setting m ps allowed.distinct was_stacked) (lacks_from_on ps allowed.symbols) ended_room
    older_left false e = settle ended ps ended_same allowed.known allowed.distinct (stacked_settled setting m ps e was_stacked) allowed.symbols ended_room

    complete_allowed : (target : Bool) → Allowed setting (settled_in (if target then without_older (replaces setting m.patch) ended m.patch else without_patch ended m.patch))
    complete_allowed true = older_left (replaces setting m.patch) refl
    complete_allowed false =
        settle (without_patch ended m.patch) (left_out m.patch ps) (numbers-taken_out m.patch ended.installed ∙ ap (left_out m.patch) ended_same)
        (known-left_out setting m.patch ps allowed.known) (distinct-left_out m.patch ps allowed.distinct) (stacked_left_out setting m ps allowed.distinct was_stacked) (lacks_left_out ps allowed.symbols) ended_room

    try_allowed : (left : ℕ) → Allowed setting (completed_or_pending setting state m (tried setting state m) left).1
    try_allowed zero = complete_allowed m.target
    try_allowed (suc left) =
        allowed_tasks (tried setting state m)
        (subst (λ o. AreRight setting o (tried setting state m)) (sym is) (tasks.right_tried setting m (blocked setting state m) state.tasks (subst (λ o. AreRight setting o state.tasks) is allowed.tasks)))
        (length-map state.tasks _)

  poll_allowed : (moving : Option Transition) → state.moving ≡ moving → lacks_room setting state Poll ≡ false → Allowed setting (polled setting state moving).1
  poll_allowed None is enough = allowed
  poll_allowed (Some m) is enough = try_allowed m is enough (pending setting state m)

  -- Coming and Going
  module _ (object : ℕ) where
    abbrev coming : List Call
    coming = coming_calls state.moving (parts setting state object)

    come_allowed : NoneHolds (refusals setting state (Coming object)) → (found : Option Part)
        → Allowed setting (come_or_refused (with_world state (after_calls state.world coming)) object found).1
    come_allowed open_ None =
        let world = after_calls state.world coming in
        let after = record (with_world state world) { loaded = slice_set state.loaded object true } in
        allowed_next after ps (numbers-after_calls state.world coming) (first_set_true state.loaded object allowed.kernel) allowed.known allowed.distinct allowed.moving allowed.stacked
        (came setting state.loaded object ps open_.1.1.0 allowed.symbols) allowed.tasks
        (room_after setting state (Coming object) state.world coming open_.1.1.1.0 refl (few_coming state.moving (parts setting state object))) (length-set state.loaded object true) refl refl
    come_allowed open_ (Some part) =
        allowed_world (after_calls state.world coming) (numbers-after_calls state.world coming)
        (room_after setting state (Coming object) state.world coming open_.1.1.1.0 refl (few_coming state.moving (parts setting state object)))

    abbrev going : List Call
    going = going_calls state.moving (parts setting state object)

    going_module : (a b c : Bool) → not (not a && b && c) ≡ false → a ≡ false
    going_module true b c e = cc
    going_module false b c e = refl

    go_allowed : NoneHolds (refusals setting state (Going object)) → Allowed setting (gone setting state object).1
    go_allowed open_ =
        let world = after_calls state.world going in
        let after = record (with_world state world) { loaded = slice_set state.loaded object false } in
        allowed_next after ps (numbers-after_calls state.world going)
        (first_set_false state.loaded object (going_module (object == 0) (nat_lt object (length setting.image.objects)) (is_loaded state object) open_.0) allowed.kernel)
        allowed.known allowed.distinct allowed.moving allowed.stacked (fewer setting state.loaded (slice_set state.loaded object false) (λ o e. set_false state.loaded object o e) ps allowed.symbols) allowed.tasks
        (room_after setting state (Going object) state.world going open_.1.1.0 refl (few_going state.moving (parts setting state object))) (length-set state.loaded object false) refl refl

  -- tasks
  set_allowed : (number : ℕ) (task : Option Task) → is_right_task setting state.moving task ≡ true → Allowed setting (with_tasks state (slice_set state.tasks number task))
  set_allowed number task right = allowed_tasks (slice_set state.tasks number task) (tasks.right_set setting state.moving state.tasks number task right allowed.tasks) (length-set state.tasks number task)

  change_allowed : (number : ℕ) (f : Task → Task) (task : Option Task) → task_at state.tasks number ≡ task
      → ((t : Task) → task ≡ Some t → is_right_task setting state.moving (Some t) ≡ true → is_right_task setting state.moving (Some (f t)) ≡ true)
      → Allowed setting (change_task state number f task)
  change_allowed number f None is right = allowed
  change_allowed number f (Some t) is right =
      set_allowed number (Some (f t)) (right t refl (ap (is_right_task setting state.moving) (sym is) ∙ tasks.right_at setting state.moving state.tasks number allowed.tasks))

  -- shadow variables
  shadow_allowed : (event : Event) → finite.len (shadow_changed state.world event).shadow ≤ MAX_VARIABLES → Allowed setting (with_world state (shadow_changed state.world event))
  shadow_allowed event room = allowed_world (shadow_changed state.world event) (ap numbers (shadow_installed state.world event)) room

  inserted_room : (key : ShadowKey) (value : ShadowValue) → is_full state.world ≡ false → finite.len (finite.insert state.world.shadow key value) ≤ MAX_VARIABLES
  inserted_room key value room = by (finite.contains_key state.world.shadow key) (finite.len-insert key_total state.world.shadow key value)
    where
      below : finite.len state.world.shadow < MAX_VARIABLES
      below = leb-false MAX_VARIABLES (finite.len state.world.shadow) room

      by : (t : Bool) → finite.len (finite.insert state.world.shadow key value) ≡ cond t (finite.len state.world.shadow) (finite.len state.world.shadow + 1)
          → finite.len (finite.insert state.world.shadow key value) ≤ MAX_VARIABLES
      by true e = omega (arith, e, below)
      by false e = omega (arith, e, below)

  allocated_room : (key : ShadowKey) (value : ShadowValue) (o : Option ShadowValue) → (is_none o && is_full state.world) ≡ false → finite.len (allocated state.world key value o).shadow ≤ MAX_VARIABLES
  allocated_room key value None room = inserted_room key value room
  allocated_room key value (Some old) room = allowed.room

  removed_room : (key : ShadowKey) → finite.len (finite.remove state.world.shadow key) ≤ MAX_VARIABLES
  removed_room key = by (finite.contains_key state.world.shadow key) (finite.len-remove key_total state.world.shadow key)
    where
      by : (t : Bool) → finite.len (finite.remove state.world.shadow key) ≡ cond t (finite.len state.world.shadow - 1) (finite.len state.world.shadow)
          → finite.len (finite.remove state.world.shadow key) ≤ MAX_VARIABLES
      by true e = omega (arith, e, allowed.room)
      by false e = omega (arith, e, allowed.room)

  allowed_step : (event : Event) → NoneHolds (refusals setting state event) → Allowed setting (accepted setting state event).1
  allowed_step (Enable patch) open_ = enable_allowed patch open_ (find refuses (loaded_objects setting state patch))
  allowed_step (SetEnabled patch value) open_ = set_enabled_allowed patch value open_ state.moving refl open_.1.1.0 open_.1.1.1.0 (moves state.moving patch) refl
  allowed_step (Force patch) open_ = force_allowed state.moving refl
  allowed_step Poll open_ = poll_allowed state.moving refl open_.1.0
  allowed_step (Coming object) open_ = come_allowed object open_ (find part_refuses (parts setting state object))
  allowed_step (Going object) open_ = go_allowed object open_
  allowed_step (NewTask task) open_ = set_allowed task (Some (new_task (state_wanted state.moving))) (tasks.new_right setting state.moving)
  allowed_step (Fork parent child) open_ =
      set_allowed child _ (tasks.forked_right setting state.moving (task_at state.tasks parent) (not-false _ (or_parts (not (is_there state parent)) _ open_.0).0)
      (tasks.right_at setting state.moving state.tasks parent allowed.tasks))
  allowed_step (EndTask task) open_ = set_allowed task None refl
  allowed_step (EnterKernel task) open_ =
      change_allowed task _ (task_at state.tasks task) refl (λ t is right. tasks.entered_right setting state.moving t (ap (is_in User) (sym is) ∙ not-false _ open_.1.0) right)
  allowed_step (ExitToUser task) open_ =
      change_allowed task _ (task_at state.tasks task) refl (λ t is right. tasks.exited_right setting state.moving t (ap (is_in Kernel) (sym is) ∙ not-false _ open_.1.0) right)
  allowed_step (Sleep task frames) open_ =
      change_allowed task _ (task_at state.tasks task) refl (λ t is right. tasks.asleep_right setting state.moving t frames open_.1.1.0 right)
  allowed_step (Wake task) open_ = change_allowed task _ (task_at state.tasks task) refl (λ t is right. tasks.woken_right setting state.moving t right)
  allowed_step (ShadowAlloc key value) open_ = shadow_allowed (ShadowAlloc key value) (inserted_room key value open_.1.0)
  allowed_step (ShadowGetOrAlloc key value) open_ = shadow_allowed (ShadowGetOrAlloc key value) (allocated_room key value (variable state.world key) open_.0)
  allowed_step (ShadowFree key) open_ = shadow_allowed (ShadowFree key) (removed_room key)
  allowed_step (ShadowFreeAll id) open_ = shadow_allowed (ShadowFreeAll id) (omega (arith, few_kept state.world.shadow (λ (key : ShadowKey). not (key.id == id)), allowed.room))

pub allowed_next_state : (setting : Setting) (state : State) (event : Event) → Allowed setting state → accepts setting state event ≡ true → Allowed setting (next setting state event)
allowed_next_state setting state event allowed e =
    subst (Allowed setting) (sym (next_accepted setting state event e)) (allowed_step setting state allowed event (none_holds (refusals setting state event) e))
