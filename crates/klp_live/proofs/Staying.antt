-- An event leaves the rows of all sites but those that it touches.
use Rattle.std.proofs.Common.{◌≡◌, ℕ, zero, suc, ◌==◌, ◌&&◌, ◌||◌, not, Bool, true, false, cond, List, [], ◌∷◌, ◌++◌, map, reverse, append_assoc, Option, Some, None, is_some, is_none, refl, sym, ap, subst, ◌∙◌, slice_set, slice_index_or, if◌then◌else◌}
use Rattle.std.specs.List.{list_any, find}
use Rattle.std.proofs.lemmas.Bool.{eq-eqb, eqb-true, or_parts, both_ways}
use Rattle.std.proofs.lemmas.List.{reverse-append, append-nil, get_or-set_other}
use Rattle.klp_types.specs.declared.version.Entry.{Entry}
use Rattle.klp_types.specs.declared.version.Transition.{Transition}
use Rattle.klp_types.specs.declared.row.SiteRow.{SiteRow}
use Rattle.klp_types.specs.declared.callback.Which.TheVariants.{PreUn}
use Rattle.klp_types.specs.Image.{object_of}
use Rattle.klp_types.specs.Setting.{Setting, PatchObject, functions_of, function_for, replaces, state_ids, is_at}
use Rattle.klp_types.specs.World.{World, with_patch, without_patch}
use Rattle.klp_types.specs.Entries.{patches_site, entry_of, entries_from}
use Rattle.klp_types.specs.Pick.{moves}
use Rattle.klp_types.specs.FirstOf.{unless}
use Rattle.klp_types.specs.Callbacks.{calls_of, refuses, enable_calls, after_calls}
use Rattle.klp_model.specs.declared.event.Event.{Event}
use Rattle.klp_model.specs.declared.event.Event.TheVariants.{Enable, SetEnabled, Force, Poll, Coming, Going, NewTask, Fork, EndTask, EnterKernel, ExitToUser, Sleep, Wake, ShadowAlloc, ShadowGetOrAlloc, ShadowFree, ShadowFreeAll}
use Rattle.klp_model.specs.declared.event.Refusal.{Refusal}
use Rattle.klp_model.specs.State.{State, installed_patches, with_world}
use Rattle.klp_types.specs.declared.task.Task.{Task}
use Rattle.klp_model.specs.Task.{task_at}
use Rattle.klp_model.specs.TaskStep.{change_task}
use Rattle.klp_model.specs.ShadowStep.{shadow_changed}
use Rattle.klp_model.proofs.ShadowLemmas.{shadow_installed}
use Rattle.klp_model.specs.Rows.{newest, moving_patch, newest_moves, row_among, row_of}
use Rattle.klp_model.specs.Entries.{is_object_loaded, is_site_loaded}
use Rattle.klp_model.specs.Blocked.{tried, pending}
use Rattle.klp_model.specs.Callbacks.{loaded_objects, end_calls}
use Rattle.klp_model.specs.ModuleCalls.{Part, parts, part_refuses, coming_calls, going_calls}
use Rattle.klp_model.specs.Enabling.{enabled_or_gone, turned_or_started}
use Rattle.klp_model.specs.Forcing.{forced}
use Rattle.klp_model.specs.Completing.{without_older, settled, completed_or_pending, polled}
use Rattle.klp_model.specs.ModuleStep.{with_loaded, come_or_refused}
use Rattle.klp_model.specs.Step.{accepted}
use Rattle.klp_model.specs.Run.{next, state_after}
use Rattle.klp_model.specs.Refusals.{refusal, refusals, NoneHolds, same_bool, moves_out}
use Rattle.klp_model.proofs.AllowedLemmas.{nothing_there, left_out-put}
use Rattle.klp_model.proofs.OrderLemmas.{numbers, left_out, numbers-put, numbers-taken_out, numbers-after_calls, one_of-numbers}
use Rattle.klp_model.proofs.RefusalLemmas.{none_holds}
use Rattle.klp_live.specs.Touched.{is_touched, is_touched_by}

-- a patch that replaces nothing and has no function for the site
module _ (setting : Setting) (site patch : ℕ) (plain : replaces setting patch ≡ false) (away : patches_site setting site patch ≡ false) where
  abbrev entries : List ℕ → List Entry
  entries patches = entries_from setting site patches

  none_of : (own : Option ℕ) (undoes : Bool) → is_some own ≡ false → undoes ≡ false → entry_of patch own undoes ≡ []
  none_of None true own_none e = absurd (cc e)
  none_of None false own_none e = refl
  none_of (Some function) undoes own_none e = absurd (cc own_none)

  puts_nothing : (undone : Bool) → entry_of patch (function_for (functions_of setting patch) site) (replaces setting patch && undone) ≡ []
  puts_nothing undone = none_of (function_for (functions_of setting patch) site) (replaces setting patch && undone) away (ap (λ b. b && undone) plain)

  any_same : (newer older : List ℕ) → list_any (patches_site setting site) (newer ++ patch ∷ older) ≡ list_any (patches_site setting site) (newer ++ older)
  any_same [] older = ap (λ b. b || list_any (patches_site setting site) older) away
  any_same (first ∷ newer) older = ap (λ b. patches_site setting site first || b) (any_same newer older)

  skipped : (newer older : List ℕ) → entries (newer ++ patch ∷ older) ≡ entries (newer ++ older)
  skipped [] older = ap (λ l. l ++ entries older) (puts_nothing (list_any (patches_site setting site) older))
  skipped (first ∷ newer) older = rw (any_same newer older, skipped newer older) refl

  put_last : (patches : List ℕ) → entries (reverse (patches ++ patch ∷ [])) ≡ entries (reverse patches)
  put_last patches = ap entries (reverse-append patches (patch ∷ [])) ∙ skipped [] (reverse patches)

  behind : (first : ℕ) (list tail : List ℕ) → reverse (first ∷ list) ++ tail ≡ reverse list ++ first ∷ tail
  behind first list tail = ap (λ l. l ++ tail) (reverse-append (first ∷ []) list) ∙ append_assoc (reverse list) (first ∷ []) tail

  left_from : (patches tail : List ℕ) → entries (reverse (left_out patch patches) ++ tail) ≡ entries (reverse patches ++ tail)
  left_from [] tail = refl
  left_from (first ∷ newer) tail = by (first == patch) refl (left_from newer (first ∷ tail))
    where
      by : (t : Bool) → (first == patch) ≡ t → entries (reverse (left_out patch newer) ++ first ∷ tail) ≡ entries (reverse newer ++ first ∷ tail)
          → entries (reverse (cond t newer (first ∷ left_out patch newer)) ++ tail) ≡ entries (reverse (first ∷ newer) ++ tail)
      by true is rest =
          sym (ap entries (behind first newer tail) ∙ ap (λ x. entries (reverse newer ++ x ∷ tail)) (eqb-true first patch is) ∙ skipped (reverse newer) tail)
      by false is rest = ap entries (behind first (left_out patch newer) tail) ∙ rest ∙ sym (ap entries (behind first newer tail))

  left_all : (patches : List ℕ) → entries (reverse (left_out patch patches)) ≡ entries (reverse patches)
  left_all patches = ap entries (sym (append-nil (reverse (left_out patch patches)))) ∙ left_from patches [] ∙ ap entries (append-nil (reverse patches))

  -- none of the entries is the patch's
  top_apart : (older : List ℕ) → newest_moves (Some patch) (newest (entries older)) ≡ false
  top_apart [] = refl
  top_apart (first ∷ older) =
      by (function_for (functions_of setting first) site) refl (replaces setting first) refl (list_any (patches_site setting site) older) (top_apart older)
    where
      function : (t : Bool) → (patch == first) ≡ t → is_some (function_for (functions_of setting first) site) ≡ true → (patch == first) ≡ false
      function true is own = absurd (both_ways (patches_site setting site patch) away (subst (λ x. patches_site setting site x ≡ true) (sym (eqb-true patch first is)) own))
      function false is own = is

      nop : (t : Bool) → (patch == first) ≡ t → replaces setting first ≡ true → (patch == first) ≡ false
      nop true is own = absurd (both_ways (replaces setting patch) plain (subst (λ x. replaces setting x ≡ true) (sym (eqb-true patch first is)) own))
      nop false is own = is

      by : (own : Option ℕ) → function_for (functions_of setting first) site ≡ own → (r : Bool) → replaces setting first ≡ r → (u : Bool)
          → newest_moves (Some patch) (newest (entries older)) ≡ false → newest_moves (Some patch) (newest (entry_of first own (r && u) ++ entries older)) ≡ false
      by (Some number) is r e u rest = function (patch == first) refl (ap is_some is)
      by None is true e true rest = nop (patch == first) refl e
      by None is true e false rest = rest
      by None is false e u rest = rest

  moves_same : (target : Bool) (older : List ℕ) → row_among setting (Some (record { patch = patch; target = target })) site (entries older) ≡ row_among setting None site (entries older)
  moves_same target older = rw (top_apart older) refl

-- a row, by what is loaded, what moves and what is installed
module _ (setting : Setting) (site : ℕ) where
  abbrev row_over : Option Transition → List ℕ → SiteRow
  row_over moving patches = row_among setting moving site (entries_from setting site (reverse patches))

  abbrev row_by : Bool → Option Transition → List ℕ → Option SiteRow
  row_by loaded moving patches = if loaded then Some (row_among setting moving site (if loaded then entries_from setting site (reverse patches) else [])) else None

  by_parts : (loaded : Bool) (a b : Option Transition) (ps qs : List ℕ) → row_over a ps ≡ row_over b qs → row_by loaded a ps ≡ row_by loaded b qs
  by_parts true a b ps qs e = ap Some e
  by_parts false a b ps qs e = refl

-- SetEnabled is refused where another patch moves
other_refuses : (patch : ℕ) (value : Bool) (m : Transition) → (m.patch == patch) ≡ false → same_bool value (not (m.patch == patch && not m.target)) ≡ false
    → (not value && true && not (m.patch == patch)) ≡ false → ⊥
other_refuses patch value m other same busy =
    by value (sym (ap (λ b. same_bool value (not (b && not m.target))) other) ∙ same) (sym (ap (λ b. not value && true && not b) other) ∙ busy)
  where
    by : (v : Bool) → same_bool v true ≡ false → (not v && true && true) ≡ false → ⊥
    by true same busy = both_ways true same refl
    by false same busy = both_ways true busy refl

module _ (setting : Setting) (state : State) (site : ℕ) where
  abbrev ps : List ℕ
  ps = installed_patches state

  abbrev there : Bool
  there = is_site_loaded setting state site

  -- the same where another world has the same installed patches
  same_world : (world : World) → numbers world.installed ≡ ps → row_of setting (with_world state world) site ≡ row_of setting state site
  same_world world is = by_parts setting site there state.moving state.moving (numbers world.installed) ps (ap (row_over setting site state.moving) is)

  module _ (patch : ℕ) (plain : replaces setting patch ≡ false) (away : patches_site setting site patch ≡ false) where
    moved_same : (target : Bool) (patches : List ℕ) → row_over setting site (Some (record { patch = patch; target = target })) patches ≡ row_over setting site None patches
    moved_same target patches = moves_same setting site patch plain away target (reverse patches)

    enable_stays : (world : World) → numbers world.installed ≡ ps ++ patch ∷ [] → NoneHolds (refusals setting state (Enable patch)) → (found : Option (ℕ × PatchObject))
        → row_of setting (enabled_or_gone state patch world found).1 site ≡ row_of setting state site
    enable_stays world is open_ None =
        by_parts setting site there (Some (record { patch = patch; target = true })) state.moving (numbers world.installed) ps
        (ap (row_over setting site (Some (record { patch = patch; target = true }))) is ∙ moved_same true (ps ++ patch ∷ [])
        ∙ ap (row_among setting None site) (put_last setting site patch plain away ps) ∙ ap (λ m. row_over setting site m ps) (sym (nothing_there state.moving open_.1.1.0)))
    enable_stays world is open_ (Some object) =
        same_world (without_patch world patch) (numbers-taken_out patch world.installed ∙ ap (left_out patch) is
        ∙ left_out-put patch ps (one_of-numbers patch state.world.installed ∙ open_.1.0))

    -- the same where it moves already, whatever its target is
    turned_same : (m : Transition) (value : Bool) → m.patch ≡ patch → row_over setting site (Some (record { patch = patch; target = value })) ps ≡ row_over setting site (Some m) ps
    turned_same m value e = ap (λ p. row_over setting site (Some (record { patch = p; target = value })) ps) (sym e)

    turned_stays : (value : Bool) (moving : Option Transition) → state.moving ≡ moving → same_bool value (not (moves_out moving patch)) ≡ false
        → (not value && is_some moving && not (moves moving patch)) ≡ false
        → (t : Bool) → moves moving patch ≡ t → row_of setting (turned_or_started setting state patch value t).1 site ≡ row_of setting state site
    turned_stays value None is same busy true e = absurd (cc e)
    turned_stays value (Some m) is same busy true e =
        by_parts setting site there (Some (record { patch = patch; target = value })) state.moving ps ps
        (turned_same m value (eqb-true m.patch patch e) ∙ ap (λ o. row_over setting site o ps) (sym is))
    turned_stays value None is same busy false e =
        let world = after_calls state.world (calls_of patch PreUn (loaded_objects setting state patch)) in
        by_parts setting site there (Some (record { patch = patch; target = false })) state.moving (numbers world.installed) ps
        (ap (row_over setting site (Some (record { patch = patch; target = false }))) (numbers-after_calls state.world (calls_of patch PreUn (loaded_objects setting state patch)))
        ∙ moved_same false ps ∙ ap (λ o. row_over setting site o ps) (sym is))
    turned_stays value (Some m) is same busy false e = absurd (other_refuses patch value m e same busy)

    settled_stays : (world : World) → numbers world.installed ≡ ps → (m : Transition) → m.patch ≡ patch → state.moving ≡ Some m
        → row_by setting site there None (numbers (settled setting world m).installed) ≡ row_of setting state site
    settled_stays world is m own moving =
        by_parts setting site there None state.moving (numbers (settled setting world m).installed) ps
        (by m.target refl ∙ sym (moved_same m.target ps) ∙ turned_same m m.target own ∙ ap (λ o. row_over setting site o ps) (sym moving))
      where
        plain_too : replaces setting m.patch ≡ false
        plain_too = ap (replaces setting) own ∙ plain

        by : (t : Bool) → m.target ≡ t → row_over setting site None (numbers (if t then without_older (replaces setting m.patch) world m.patch else without_patch world m.patch).installed) ≡ row_over setting site None ps
        by true e = ap (λ b. row_over setting site None (numbers (without_older b world m.patch).installed)) plain_too ∙ ap (row_over setting site None) is
        by false e =
            ap (λ p. row_over setting site None (numbers (without_patch world p).installed)) own
            ∙ ap (row_over setting site None) (numbers-taken_out patch world.installed ∙ ap (left_out patch) is)
            ∙ ap (row_among setting None site) (left_all setting site patch plain away ps)

    polled_stays : (m : Transition) → m.patch ≡ patch → state.moving ≡ Some m → (left : ℕ) → row_of setting (completed_or_pending setting state m (tried setting state m) left).1 site ≡ row_of setting state site
    polled_stays m own moving zero = settled_stays (after_calls state.world (end_calls setting state (Some m))) (numbers-after_calls state.world (end_calls setting state (Some m))) m own moving
    polled_stays m own moving (suc left) = refl

  -- a site of another object
  apart_stays : (object : ℕ) (flag : Bool) (own : Option ℕ) → is_at own object ≡ false → (after : State) → after.loaded ≡ slice_set state.loaded object flag
      → is_object_loaded after own ≡ is_object_loaded state own
  apart_stays object flag None away after is = refl
  apart_stays object flag (Some o) away after is =
      ap (λ (l : List Bool). slice_index_or l o false) is ∙ get_or-set_other state.loaded object o flag false (λ e. both_ways (o == object) away (eq-eqb o object e))

  loaded_stays : (object : ℕ) (flag : Bool) → is_at (object_of setting.image.objects site) object ≡ false → (world : World) → numbers world.installed ≡ ps
      → row_of setting (with_loaded (with_world state world) object flag) site ≡ row_of setting state site
  loaded_stays object flag away world is =
      ap (λ b. row_by setting site b state.moving (numbers world.installed)) (apart_stays object flag (object_of setting.image.objects site) away (with_loaded (with_world state world) object flag) refl)
      ∙ by_parts setting site there state.moving state.moving (numbers world.installed) ps (ap (row_over setting site state.moving) is)

  come_stays : (object : ℕ) → is_at (object_of setting.image.objects site) object ≡ false → (found : Option Part)
      → row_of setting (come_or_refused (with_world state (after_calls state.world (coming_calls state.moving (parts setting state object)))) object found).1 site ≡ row_of setting state site
  come_stays object away None =
      loaded_stays object true away (after_calls state.world (coming_calls state.moving (parts setting state object))) (numbers-after_calls state.world (coming_calls state.moving (parts setting state object)))
  come_stays object away (Some part) = same_world (after_calls state.world (coming_calls state.moving (parts setting state object))) (numbers-after_calls state.world (coming_calls state.moving (parts setting state object)))

  forced_stays : (moving : Option Transition) → row_of setting (forced setting state moving).1 site ≡ row_of setting state site
  forced_stays None = refl
  forced_stays (Some m) = refl

  changed_stays : (task : ℕ) (f : Task → Task) (own : Option Task) → row_of setting (change_task state task f own) site ≡ row_of setting state site
  changed_stays task f None = refl
  changed_stays task f (Some own) = refl

  shadow_stays : (event : Event) → row_of setting (with_world state (shadow_changed state.world event)) site ≡ row_of setting state site
  shadow_stays event = same_world (shadow_changed state.world event) (ap numbers (shadow_installed state.world event))

  poll_stays : (moving : Option Transition) → state.moving ≡ moving → is_touched_by setting (moving_patch moving) site ≡ false → row_of setting (polled setting state moving).1 site ≡ row_of setting state site
  poll_stays None is away = refl
  poll_stays (Some m) is away =
      let parts = or_parts (replaces setting m.patch) (patches_site setting site m.patch) away in
      polled_stays m.patch parts.0 parts.1 m refl is (pending setting state m)

  accepted_stays : (event : Event) → is_touched setting (moving_patch state.moving) event site ≡ false → NoneHolds (refusals setting state event)
      → row_of setting (accepted setting state event).1 site ≡ row_of setting state site
  accepted_stays (Enable patch) away open_ =
      let parts = or_parts (replaces setting patch) (patches_site setting site patch) (or_parts (is_touched_by setting (Some patch) site) false away).0 in
      let before = with_patch state.world patch (state_ids setting patch) in
      let calls = enable_calls patch (loaded_objects setting state patch) in
      enable_stays patch parts.0 parts.1 (after_calls before calls)
      (numbers-after_calls before calls ∙ numbers-put state.world.installed (record { patch = patch; values = map (λ id. (id, 0)) (state_ids setting patch) }))
      open_ (find refuses (loaded_objects setting state patch))
  accepted_stays (SetEnabled patch value) away open_ =
      let parts = or_parts (replaces setting patch) (patches_site setting site patch) (or_parts (is_touched_by setting (Some patch) site) false away).0 in
      turned_stays patch parts.0 parts.1 value state.moving refl open_.1.1.0 open_.1.1.1.0 (moves state.moving patch) refl
  accepted_stays (Force patch) away open_ = forced_stays state.moving
  accepted_stays Poll away open_ = poll_stays state.moving refl (or_parts (is_touched_by setting (moving_patch state.moving) site) false away).0
  accepted_stays (Coming object) away open_ = come_stays object (or_parts false (is_at (object_of setting.image.objects site) object) away).1 (find part_refuses (parts setting state object))
  accepted_stays (Going object) away open_ =
      loaded_stays object false (or_parts false (is_at (object_of setting.image.objects site) object) away).1
      (after_calls state.world (going_calls state.moving (parts setting state object))) (numbers-after_calls state.world (going_calls state.moving (parts setting state object)))
  accepted_stays (NewTask task) away open_ = refl
  accepted_stays (Fork parent child) away open_ = refl
  accepted_stays (EndTask task) away open_ = refl
  accepted_stays (EnterKernel task) away open_ = changed_stays task _ (task_at state.tasks task)
  accepted_stays (ExitToUser task) away open_ = changed_stays task _ (task_at state.tasks task)
  accepted_stays (Sleep task frames) away open_ = changed_stays task _ (task_at state.tasks task)
  accepted_stays (Wake task) away open_ = changed_stays task _ (task_at state.tasks task)
  accepted_stays (ShadowAlloc key value) away open_ = shadow_stays (ShadowAlloc key value)
  accepted_stays (ShadowGetOrAlloc key value) away open_ = shadow_stays (ShadowGetOrAlloc key value)
  accepted_stays (ShadowFree key) away open_ = shadow_stays (ShadowFree key)
  accepted_stays (ShadowFreeAll id) away open_ = shadow_stays (ShadowFreeAll id)

  next_by : (event : Event) (reason : Option Refusal) → refusal setting state event ≡ reason → is_touched setting (moving_patch state.moving) event site ≡ false
      → row_of setting (state_after state (unless reason (accepted setting state event))) site ≡ row_of setting state site
  next_by event (Some reason) is away = refl
  next_by event None is away = accepted_stays event away (none_holds (refusals setting state event) (ap is_none is))

  pub next_stays : (event : Event) → is_touched setting (moving_patch state.moving) event site ≡ false → row_of setting (next setting state event) site ≡ row_of setting state site
  next_stays event away = next_by event (refusal setting state event) refl away
