-- What an event of a task leaves of the table: all but the state of that task.
use Rattle.std.proofs.Common.{◌≡◌, ◌≢◌, ℕ, ◌<◌, ◌≤◌, List, [], ◌∷◌, ◌++◌, take, length, Option, None, Some, option_map, slice_index_or, slice_set, Global, Bool, true, false, ◌||◌, refl, ap, sym, ◌∙◌, arith, subst, ◌⊎◌, inl, inr, ⊎_elim, Result, Ok, Err}
use Rattle.std.specs.Prelude.{◌↔◌, is_ok}
use Rattle.std.specs.declared.boxed.Box.{Box}
use Rattle.std.proofs.lemmas.Bool.{both_ways}
use Rattle.std.proofs.Math.Bool.{or-false}
use Rattle.std.proofs.lemmas.List.{get_or-set_same, get_or-set_other, length-set, take-append-le, take_all}
use Rattle.klp_types.specs.declared.task.Task.{Task}
use Rattle.klp_types.specs.FirstOf.{unless}
use Rattle.klp_types.specs.Setting.{Setting, replaces}
use Rattle.klp_types.specs.Entries.{patches_site}
use Rattle.klp_types.specs.declared.shadow.ShadowKey.{ShadowKey}
use Rattle.klp_types.specs.World.{ShadowValue, variable}
use Rattle.klp_types.specs.Script.{allocated}
use Rattle.klp_model.specs.State.{State, with_world}
use Rattle.klp_model.specs.Rows.{row_of, moving_patch}
use Rattle.klp_model.specs.Task.{task_at}
use Rattle.klp_model.specs.TaskStep.{change_task, put_task}
use Rattle.klp_model.specs.Run.{answer, next, state_after}
use Rattle.klp_model.specs.Step.{accepted}
use Rattle.klp_model.specs.Refusals.{refusal}
use Rattle.klp_model.specs.declared.event.Event.{Event}
use Rattle.klp_model.specs.declared.event.Event.TheVariants.{Enable, SetEnabled, Force, Poll, Coming, Going, NewTask, Fork, EndTask, EnterKernel, ExitToUser, Sleep, Wake, ShadowAlloc, ShadowGetOrAlloc, ShadowFree, ShadowFreeAll}
use Rattle.klp_model.specs.declared.event.Reply.{Reply}
use Rattle.klp_model.specs.declared.event.Refusal.{Refusal}
use Rattle.klp_live.specs.declared.table.Table.{Table}
use Rattle.klp_live.specs.declared.table.Moved.{Moved}
use Rattle.klp_live.specs.declared.table.Change.TheVariants.{Task as OfTask, Moved as AllMoved}
use Rattle.klp_types.specs.Image.{symbols_of}
use Rattle.klp_live.specs.Dispatch.{IsDispatch, own_state, changed, LeadsOn, task_of, is_of_variables}
use Rattle.klp_live.specs.Listed.{NewRow, AreRowsOf, is_listed, with_rows}
use Rattle.klp_live.specs.Touched.{is_touched, is_touched_by, is_inside, patch_moved, module_moved}
use Rattle.klp_live.proofs.Changes.{length-with_rows, set_rows}
use Rattle.klp_live.proofs.Staying.{next_stays}
use Rattle.klp_live.proofs.Tables.{below, or_past, no_row}
use Rattle.klp_manager_state.specs.Managed.{Managed, setting_of}
use Rattle.klp_model.specs.Legal.{History, state_after_history}
use Rattle.klp_manager_state.specs.Events.{after_event}
use Rattle.klp_core.specs.Journaled.{Journaled, IsWellFormed, history_in}
use Rattle.klp_core.specs.Rewinding.{IsRewound}
use Rattle.klp_model.specs.declared.event.Refusal.TheVariants.{JournalFull}
use Rattle.klp_core.specs.Taking.{Appends, IsTaken, answer_in, unless_full}
use Rattle.klp_journal.specs.Journal.{Group, has_room}
use Rattle.klp_live.specs.Admitting.{IsManagerOf, FindsNoRoom}

-- where an accepted event leads a manager of a list
pub leads : (setting : Setting) (base : State) (before after : Journaled) (list : History) (event : Event) (reply : Reply) → IsManagerOf setting base before list → IsWellFormed before
    → Appends before after event reply → after.managed.state ≡ next setting (state_after_history setting base list) event
leads setting base before after list event reply of well_formed appends =
    let stood : before.managed.state ≡ state_after_history setting base list = rw (← of.setting_is, ← of.base_is, ← of.groups) well_formed.state in
    ap (λ (m : Managed). m.state) appends.left ∙ cc (of.setting_is, stood)

accepts : (reply : Reply) (room : Bool) (own : Result Reply Refusal) → Ok reply ≡ unless_full room own → own ≡ Ok reply
accepts reply room (Err refusal) e = absurd (cc e)
accepts reply true (Ok own) e = sym e
accepts reply false (Ok own) e = absurd (cc e)

-- what an accepted event is answered in the state of the list
pub answered : (setting : Setting) (base : State) (before after : Journaled) (list : History) (event : Event) (reply : Reply) → IsManagerOf setting base before list → IsWellFormed before
    → IsTaken before after event (Ok reply) → answer setting (state_after_history setting base list) event ≡ Ok reply
answered setting base before after list event reply of well_formed taken =
    let stood : before.managed.state ≡ state_after_history setting base list = rw (← of.setting_is, ← of.base_is, ← of.groups) well_formed.state in
    let own = accepts reply (has_room before.groups) (answer (setting_of before.managed) before.managed.state event) taken.answered in
    subst (λ (s : State). answer setting s event ≡ Ok reply) stood (subst (λ (s : Setting). answer s before.managed.state event ≡ Ok reply) of.setting_is own)

reply_of : (own : Result Reply Refusal) → is_ok own ≡ true → (reply : Reply) × (own ≡ Ok reply)
reply_of (Ok reply) e = (reply, refl)
reply_of (Err refusal) e = absurd (cc e)

-- an event that is told of a full journal would be accepted in the state of the list, and there is no room in the journal of its events
pub finds_no_room : (setting : Setting) (base : State) (before after : Journaled) (list : History) (event : Event) (refusal : Refusal) → IsManagerOf setting base before list → IsWellFormed before
    → ((s : Setting) (state : State) (groups : List Group) (e : Event) → (answer_in s state groups e ≡ Err JournalFull) ↔ ((is_ok (answer s state e) ≡ true) × (has_room groups ≡ false)))
    → IsTaken before after event (Err refusal) → refusal ≡ JournalFull → FindsNoRoom setting base list event
finds_no_room setting base before after list event refusal of well_formed alone taken full =
    let stood : before.managed.state ≡ state_after_history setting base list = rw (← of.setting_is, ← of.base_is, ← of.groups) well_formed.state in
    let receipt : answer_in (setting_of before.managed) before.managed.state before.groups event ≡ Err JournalFull = sym taken.answered ∙ ap Err full in
    let both = (alone (setting_of before.managed) before.managed.state before.groups event).0 receipt in
    let own = reply_of (answer (setting_of before.managed) before.managed.state event) both.0 in record {
      reply = own.0;
      accepted = subst (λ (s : State). answer setting s event ≡ Ok own.0) stood (subst (λ (s : Setting). answer s before.managed.state event ≡ Ok own.0) of.setting_is own.1);
      groups = before.groups;
      events = of.groups;
      small = well_formed.small;
      full = both.1;
    }

-- an accepted event was taken back: all is as before but that its callbacks were counted
pub record IsBack (before after : Journaled) (event : Event) : Type 0 where
  pub ran : after.managed.catalog ≡ (after_event before.managed event).catalog
  pub state : after.managed.state ≡ before.managed.state
  pub image : after.managed.image ≡ before.managed.image
  pub base : after.base ≡ before.base
  pub groups : after.groups ≡ before.groups

take_front : {A : Type 0} (xs ys : List A) (n : ℕ) → n ≡ length xs → take n (xs ++ ys) ≡ xs
take_front xs ys n e = take-append-le n xs ys (omega (arith, e)) ∙ take_all n xs (omega (arith, e))

pub taken_back : (before accepted after : Journaled) (event : Event) (reply : Reply) (mark : ℕ) → IsWellFormed before → mark ≡ length before.groups → IsTaken before accepted event (Ok reply)
    → setting_of accepted.managed ≡ setting_of before.managed → IsRewound accepted after mark → IsBack before after event
taken_back before accepted after event reply mark well_formed all taken setting back =
    let on = taken.accepted in
    let left : take mark accepted.groups ≡ before.groups = ap (take mark) on.groups ∙ take_front before.groups (on.group ∷ []) mark all in record {
      ran = back.catalog ∙ ap (λ (m : Managed). m.catalog) on.left;
      state = back.state ∙ ap (λ s. state_after_history s accepted.base (history_in (take mark accepted.groups))) setting
          ∙ ap (λ b. state_after_history (setting_of before.managed) b (history_in (take mark accepted.groups))) on.base
          ∙ ap (λ gs. state_after_history (setting_of before.managed) before.base (history_in gs)) left ∙ sym well_formed.state;
      image = back.image ∙ ap (λ (m : Managed). m.image) on.left;
      base = back.base ∙ on.base;
      groups = back.groups ∙ left;
    }

module _ (setting : Setting) where
  -- the rows are the same, and the states of all tasks but one
  pub record AreAlike (state now : State) (n : ℕ) : Type 0 where
    pub rows : (site : ℕ) → row_of setting now site ≡ row_of setting state site
    pub others : (i : ℕ) → i ≢ n → own_state now i ≡ own_state state i

  alike_self : (state : State) (n : ℕ) → AreAlike state state n
  alike_self state n = record { rows = λ site. refl; others = λ i ne. refl }

  alike_put : (state : State) (n : ℕ) (x : Option Task) → AreAlike state (put_task state n x) n
  alike_put state n x = record { rows = λ site. refl; others = λ i ne. ap (option_map (λ (t : Task). t.state)) (get_or-set_other state.tasks n i x None ne) }

  alike_change : (state : State) (n : ℕ) (f : Task → Task) (own : Option Task) → AreAlike state (change_task state n f own) n
  alike_change state n f None = alike_self state n
  alike_change state n f (Some task) = alike_put state n (Some (f task))

  alike_unless : (state : State) (n : ℕ) (refused : Option Refusal) (outcome : Reply × State) → AreAlike state outcome.1 n → AreAlike state (state_after state (unless refused outcome)) n
  alike_unless state n None outcome a = a
  alike_unless state n (Some reason) outcome a = alike_self state n

  alike_accepted : (state : State) (n : ℕ) (event : Event) → task_of event ≡ Some n → AreAlike state (accepted setting state event).1 n
  alike_accepted state n (NewTask task) is = subst (λ (m : ℕ). AreAlike state (accepted setting state (NewTask task)).1 m) (cc is) (alike_put state task _)
  alike_accepted state n (Fork parent child) is = subst (λ (m : ℕ). AreAlike state (accepted setting state (Fork parent child)).1 m) (cc is) (alike_put state child _)
  alike_accepted state n (EndTask task) is = subst (λ (m : ℕ). AreAlike state (accepted setting state (EndTask task)).1 m) (cc is) (alike_put state task _)
  alike_accepted state n (EnterKernel task) is = subst (λ (m : ℕ). AreAlike state (accepted setting state (EnterKernel task)).1 m) (cc is) (alike_change state task _ (task_at state.tasks task))
  alike_accepted state n (ExitToUser task) is = subst (λ (m : ℕ). AreAlike state (accepted setting state (ExitToUser task)).1 m) (cc is) (alike_change state task _ (task_at state.tasks task))
  alike_accepted state n (Sleep task frames) is = subst (λ (m : ℕ). AreAlike state (accepted setting state (Sleep task frames)).1 m) (cc is) (alike_change state task _ (task_at state.tasks task))
  alike_accepted state n (Wake task) is = subst (λ (m : ℕ). AreAlike state (accepted setting state (Wake task)).1 m) (cc is) (alike_change state task _ (task_at state.tasks task))
  alike_accepted state n (Enable patch) is = absurd (cc is)
  alike_accepted state n (SetEnabled patch value) is = absurd (cc is)
  alike_accepted state n (Force patch) is = absurd (cc is)
  alike_accepted state n Poll is = absurd (cc is)
  alike_accepted state n (Coming object) is = absurd (cc is)
  alike_accepted state n (Going object) is = absurd (cc is)
  alike_accepted state n (ShadowAlloc key value) is = absurd (cc is)
  alike_accepted state n (ShadowGetOrAlloc key value) is = absurd (cc is)
  alike_accepted state n (ShadowFree key) is = absurd (cc is)
  alike_accepted state n (ShadowFreeAll id) is = absurd (cc is)

  pub alike_next : (state : State) (n : ℕ) (event : Event) → task_of event ≡ Some n → AreAlike state (next setting state event) n
  alike_next state n event is = alike_unless state n (refusal setting state event) (accepted setting state event) (alike_accepted state n event is)

  own_or_other : (i n : ℕ) → (i ≡ n) ⊎ (i ≢ n)
  own_or_other i n = ⊎_elim (λ (h : i < n). inr (λ e. omega arith)) (λ (h : n ≤ i). ⊎_elim (λ (l : n < i). inr (λ e. omega arith)) (λ (l : i ≤ n). inl (omega arith)) (below n i)) (below i n)

  -- the table with the one task's state set is that of the state now
  pub only_task : (state now : State) (table : Table) (n : ℕ) → n < 64 → AreAlike state now n → IsDispatch setting state table
      → IsDispatch setting now (changed table (OfTask n (own_state now n)))
  only_task state now table n few alike was = record {
    height = was.height;
    width = length-set table.states n (own_state now n) ∙ was.width;
    sites = λ site. was.sites site ∙ sym (alike.rows site);
    tasks = λ i. ⊎_elim
        (λ (e : i ≡ n). subst (λ (k : ℕ). slice_index_or (slice_set table.states n (own_state now n)) k None ≡ own_state now k) (sym e) (get_or-set_same table.states n (own_state now n) None (omega (arith, was.width))))
        (λ (ne : i ≢ n). get_or-set_other table.states n i (own_state now n) None ne ∙ (was.tasks i ∙ sym (alike.others i ne)))
        (own_or_other i n);
  }

  -- the same for an event of that task
  pub task_changes : (before now : State) (event : Event) (table : Table) (n : ℕ) → n < 64 → task_of event ≡ Some n → now ≡ next setting before event → IsDispatch setting before table
      → IsDispatch setting now (changed table (OfTask n (own_state now n)))
  task_changes before now event table n few of is was =
      only_task before now table n few (subst (λ (s : State). AreAlike before s n) (sym is) (alike_next before n event of)) was

  -- the rows and the states of all tasks are the same
  pub record AreSame (state now : State) : Type 0 where
    pub rows : (site : ℕ) → row_of setting now site ≡ row_of setting state site
    pub states : (i : ℕ) → own_state now i ≡ own_state state i

  same_self : (state : State) → AreSame state state
  same_self state = record { rows = λ site. refl; states = λ i. refl }

  same_alloc : (state : State) (key : ShadowKey) (value : ShadowValue) (own : Option ShadowValue) → AreSame state (with_world state (allocated state.world key value own))
  same_alloc state key value None = record { rows = λ site. refl; states = λ i. refl }
  same_alloc state key value (Some own) = record { rows = λ site. refl; states = λ i. refl }

  same_unless : (state : State) (refused : Option Refusal) (outcome : Reply × State) → AreSame state outcome.1 → AreSame state (state_after state (unless refused outcome))
  same_unless state None outcome same = same
  same_unless state (Some reason) outcome same = same_self state

  same_accepted : (state : State) (event : Event) → is_of_variables event ≡ true → AreSame state (accepted setting state event).1
  same_accepted state (NewTask task) is = absurd (cc is)
  same_accepted state (Fork parent child) is = absurd (cc is)
  same_accepted state (EndTask task) is = absurd (cc is)
  same_accepted state (EnterKernel task) is = absurd (cc is)
  same_accepted state (ExitToUser task) is = absurd (cc is)
  same_accepted state (Sleep task frames) is = absurd (cc is)
  same_accepted state (Wake task) is = absurd (cc is)
  same_accepted state (Enable patch) is = absurd (cc is)
  same_accepted state (SetEnabled patch value) is = absurd (cc is)
  same_accepted state (Force patch) is = absurd (cc is)
  same_accepted state Poll is = absurd (cc is)
  same_accepted state (Coming object) is = absurd (cc is)
  same_accepted state (Going object) is = absurd (cc is)
  same_accepted state (ShadowAlloc key value) is = record { rows = λ site. refl; states = λ i. refl }
  same_accepted state (ShadowGetOrAlloc key value) is = same_alloc state key value (variable state.world key)
  same_accepted state (ShadowFree key) is = record { rows = λ site. refl; states = λ i. refl }
  same_accepted state (ShadowFreeAll id) is = record { rows = λ site. refl; states = λ i. refl }

  -- a table stays that of the state where an event of shadow variables happens
  pub nothing_changes : (before now : State) (event : Event) (table : Table) → is_of_variables event ≡ true → now ≡ next setting before event
      → IsDispatch setting before table → IsDispatch setting now table
  nothing_changes before now event table of is was =
      let same = subst (λ (s : State). AreSame before s) (sym is) (same_unless before (refusal setting before event) (accepted setting before event) (same_accepted before event of)) in
      record { height = was.height; width = was.width; sites = λ site. was.sites site ∙ sym (same.rows site); tasks = λ i. was.tasks i ∙ sym (same.states i) }

  -- a site that isn't listed keeps its row
  unlisted_stays : (before now : State) (moving : Option ℕ) (event : Event) (list : List NewRow) (site : ℕ) → moving_patch before.moving ≡ moving → now ≡ next setting before event
      → (is_touched setting moving event site ≡ true → is_listed site list ≡ true) → is_listed site list ≡ false → row_of setting before site ≡ row_of setting now site
  unlisted_stays before now moving event list site moved is all away = by (is_touched setting moving event site) refl
    where
      by : (t : Bool) → is_touched setting moving event site ≡ t → row_of setting before site ≡ row_of setting now site
      by true touched = absurd (both_ways (is_listed site list) away (all touched))
      by false untouched =
          sym (ap (λ s. row_of setting s site) is ∙ next_stays setting before site event (subst (λ m. is_touched setting m event site ≡ false) (sym moved) untouched))

  -- the table with the rows of all sites that the event touches, and the states of all tasks
  pub moved_leads : (now : State) (moving : Option ℕ) (event : Event) (moved : Box Moved Global) → length (symbols_of setting.image.objects) ≤ 256 → AreRowsOf setting now moved.value.rows.items
      → ((site : ℕ) → is_touched setting moving event site ≡ true → is_listed site moved.value.rows.items ≡ true) → length moved.value.states ≡ 64
      → ((task : ℕ) → slice_index_or moved.value.states task None ≡ own_state now task) → LeadsOn setting now moving event (AllMoved moved)
  moved_leads now moving event moved few are all count states before table was_moving is was =
      let list = moved.value.rows.items in
      record {
        height = length-with_rows table.rows list ∙ was.height;
        width = count;
        sites = λ site. ⊎_elim
            (λ (h : site < 256). set_rows setting now table.rows list are site (omega (arith, was.height))
            (λ away. was.sites site ∙ unlisted_stays before now moving event list site was_moving is (all site) away))
            (λ (h : 256 ≤ site). or_past (with_rows table.rows list) site None (omega (arith, length-with_rows table.rows list, was.height)) ∙ sym (no_row setting now site (omega arith)))
            (below site 256);
        tasks = states;
      }

  patched_by : (object moved : Option ℕ) (patch site : ℕ) → object ≡ None → moved ≡ Some patch → replaces setting patch ≡ false
      → (is_touched_by setting moved site || is_inside setting object site) ≡ true → patches_site setting site patch ≡ true
  patched_by (Some own) moved patch site none is plain touched = absurd (cc none)
  patched_by None None patch site none is plain touched = absurd (cc is)
  patched_by None (Some own) patch site none is plain touched =
      let same : own ≡ patch = cc is in
      sym (ap (λ b. (b || patches_site setting site patch) || false) plain ∙ or-false (patches_site setting site patch)) ∙ ap (λ p. (replaces setting p || patches_site setting site p) || false) (sym same) ∙ touched

  -- an event that moves one plain patch, and no module, touches the sites of its functions alone
  pub patched_if_touched : (moving : Option ℕ) (event : Event) (patch site : ℕ) → module_moved event ≡ None → patch_moved moving event ≡ Some patch → replaces setting patch ≡ false
      → is_touched setting moving event site ≡ true → patches_site setting site patch ≡ true
  patched_if_touched moving event patch site none is plain touched = patched_by (module_moved event) (patch_moved moving event) patch site none is plain touched

  inside_by : (own moved : Option ℕ) (object site : ℕ) → own ≡ Some object → moved ≡ None → (is_touched_by setting moved site || is_inside setting own site) ≡ true
      → is_inside setting (Some object) site ≡ true
  inside_by own (Some patch) object site is none touched = absurd (cc none)
  inside_by own None object site is none touched = subst (λ o. is_inside setting o site ≡ true) is touched

  -- an event that moves a module, and no patch, touches its sites alone
  pub inside_if_touched : (moving : Option ℕ) (event : Event) (object site : ℕ) → module_moved event ≡ Some object → patch_moved moving event ≡ None
      → is_touched setting moving event site ≡ true → is_inside setting (Some object) site ≡ true
  inside_if_touched moving event object site is none touched = inside_by (module_moved event) (patch_moved moving event) object site is none touched
