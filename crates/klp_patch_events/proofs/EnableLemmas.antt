-- A patch that nothing refuses is put last.
use Rattle.std.proofs.Common.{◌++◌, ◌≡◌, ℕ, Bool, true, false, List, [], ◌∷◌, Option, Some, None, refl, sym, ap, ◌∙◌}
use Rattle.std.specs.Prelude.{is_none, is_some}
use Rattle.std.specs.Prelude.{ℤ, find, option_map}
use Rattle.std.proofs.lemmas.Bool.{not-false}
use Rattle.klp_types.specs.FirstOf.{first_of}
use Rattle.klp_types.specs.Setting.{Setting}
use Rattle.klp_model.specs.declared.event.Event.TheVariants.{Enable}
use Rattle.klp_model.specs.declared.event.Refusal.{Refusal}
use Rattle.klp_model.specs.State.{is_moving, State, is_installed}
use Rattle.klp_model.specs.EventCalls.{lacks_room}
use Rattle.klp_model.specs.Refusals.{has_patch, refusal, refusals, NoneHolds}
use Rattle.klp_types.specs.declared.callback.Which.TheVariants.{Pre}
use Rattle.klp_types.specs.declared.limits.TheConstants.{MAX_RECORDS}
use Rattle.klp_types.specs.declared.version.Transition.{Transition}
use Rattle.klp_types.specs.Image.{object_of}
use Rattle.klp_types.specs.Setting.{PatchObject, state_ids}
use Rattle.klp_types.specs.World.{World, with_patch, without_patch}
use Rattle.klp_types.specs.Callbacks.{enable_calls, refuses, after_calls, script_for}
use Rattle.klp_model.specs.declared.event.Reply.{Reply}
use Rattle.klp_model.specs.declared.event.Reply.TheVariants.{Started, PreFailed}
use Rattle.klp_model.specs.Task.{all_in, at_target}
use Rattle.klp_model.specs.Enabling.{enabled_or_gone, move_to}
use Rattle.klp_model.specs.Callbacks.{loaded_objects, status_of}
use Rattle.klp_model.specs.Allowed.{is_one_of}
use Rattle.klp_modules.specs.Names.{ModuleTable}
use Rattle.klp_catalog.specs.Catalog.{Catalog}
use Rattle.klp_catalog.specs.Runs.{after_runs}
use Rattle.klp_stack.specs.Stack.{entries_at}
use Rattle.klp_patch.specs.Covered.{is_covered}
use Rattle.klp_patch.specs.Changes.{AreMade, with_entry}
use Rattle.klp_manager_state.specs.declared.state.ManagerState.{ManagerState}
use Rattle.klp_manager_state.specs.Invariant.{Invariant}
use Rattle.klp_manager_state.specs.Events.{AcceptsEvent}
use Rattle.klp_manager_state.specs.StepLaws.{StepLaws}
use Rattle.klp_manager_state.specs.Managed.{setting_in, state_in}
use Rattle.klp_manager_state.proofs.StepLemmas.{step_accepted, accepted_at_sites}
use Rattle.klp_manager_state.proofs.InstalledLemmas.{numbers_of, gone-again}
use Rattle.klp_patch_events.proofs.EntryLemmas.{OnTop, put_last, loaded_in_scope}

-- of what is accepted no case holds
abbrev pub NoCase : Type 0
NoCase = (cases : List (Bool × Refusal)) → is_none (first_of cases) ≡ true → NoneHolds cases

-- what is known of it
pub record Enablable (setting : Setting) (state : State) (patch : ℕ) : Type 0 where
  pub there : has_patch setting patch ≡ true
  pub apart : is_installed state patch ≡ false
  pub still : is_moving state ≡ false
  pub room : lacks_room setting state (Enable patch) ≡ false

pub enablable : (setting : Setting) (state : State) (patch : ℕ) → NoCase → refusal setting state (Enable patch) ≡ None → Enablable setting state patch
enablable setting state patch law free =
    let none = law (refusals setting state (Enable patch)) (ap is_none free) in
    record { there = not-false (has_patch setting patch) none.0; apart = none.1.0; still = none.1.1.0; room = none.1.1.1.1.1.1.0 }

pub nothing_moves : (moving : Option Transition) → is_some moving ≡ false → moving ≡ None
nothing_moves None still = refl
nothing_moves (Some move) still = let no : ⊥ = cc in absurd no

-- the steps that enabling may take

abbrev objects_in : ManagerState → Catalog → ℕ → List (ℕ × PatchObject)
objects_in parts catalog patch = loaded_objects (setting_in parts catalog) (state_in parts catalog) patch

-- the world once the patch is put last and its callbacks ran
abbrev pub world_then : ManagerState → Catalog → ℕ → World
world_then parts catalog patch =
    after_calls (with_patch parts.world patch (state_ids (setting_in parts catalog) patch)) (enable_calls patch (objects_in parts catalog patch))

-- the object whose pre-patch refuses, and the status
abbrev pub effective : ℕ × PatchObject → ℕ × ℤ
effective object = (object.1.object, status_of (script_for Pre object.1.callbacks))

nothing_effective : (found : Option (ℕ × PatchObject)) → None ≡ option_map effective found → found ≡ None
nothing_effective None is = refl
nothing_effective (Some object) is = let no : ⊥ = cc in absurd no

pub none_refused : (one other : List (ℕ × PatchObject)) → None ≡ option_map effective (find refuses one) → one ≡ other → find refuses other ≡ None
none_refused one other none same = nothing_effective (find refuses other) (none ∙ ap (λ os. option_map effective (find refuses os)) same)

pub record Refused (objects : List (ℕ × PatchObject)) (object : ℕ) (status : ℤ) : Type 0 where
  pub refusing : ℕ × PatchObject
  pub found : find refuses objects ≡ Some refusing
  pub named : refusing.1.object ≡ object
  pub says : status_of (script_for Pre refusing.1.callbacks) ≡ status

something_effective : (object : ℕ) (status : ℤ) (objects : List (ℕ × PatchObject)) (found : Option (ℕ × PatchObject)) → find refuses objects ≡ found
    → Some (object, status) ≡ option_map effective found → Refused objects object status
something_effective object status objects None at is = let no : ⊥ = cc in absurd no
something_effective object status objects (Some refusing) at is =
    let same : (◌≡◌ {A = ℕ × ℤ} (object, status) (effective refusing)) = cc in
    record { refusing = refusing; found = at; named = sym (ap (λ (t : ℕ × ℤ). t.0) same); says = sym (ap (λ (t : ℕ × ℤ). t.1) same) }

pub one_refused : (one other : List (ℕ × PatchObject)) (object : ℕ) (status : ℤ) → Some (object, status) ≡ option_map effective (find refuses one) → one ≡ other
    → Refused other object status
one_refused one other object status is same =
    something_effective object status other (find refuses other) refl (is ∙ ap (λ os. option_map effective (find refuses os)) same)

pub same_reply : (patch one other : ℕ) (status result : ℤ) → one ≡ other → status ≡ result → PreFailed patch one status ≡ PreFailed patch other result
same_reply patch one other status result same says = rw (same, says) refl

-- no pre-patch refused: the patch moves
pub started : StepLaws → OnTop → (before after : ManagerState) (catalog now : Catalog) (patch : ℕ) → Invariant before catalog
    → refusal (setting_in before catalog) (state_in before catalog) (Enable patch) ≡ None
    → find refuses (objects_in before catalog patch) ≡ None
    → now ≡ after_runs catalog (enable_calls patch (objects_in before catalog patch))
    → (world : World) → world ≡ world_then before catalog patch → numbers_of world ≡ numbers_of before.world ++ patch ∷ []
    → after ≡ record before { sites = after.sites; world = world; tasks = all_in (at_target false) before.tasks; moving = move_to patch true; log = after.log }
    → AreMade before.sites after.sites (is_covered before.sites None) (with_entry catalog patch) → after.log.room ≡ MAX_RECORDS
    → AcceptsEvent before after catalog now (Enable patch) Started
started laws top before after catalog now patch holds free none runs world made more is entries room =
    let setting = setting_in before catalog in
    let state = state_in before catalog in
    let moved : State = record state { world = world; moving = move_to patch true; tasks = all_in (at_target false) state.tasks } in
    let state_is : state_in after now ≡ moved =
    ap (λ (p : ManagerState). record { loaded = after.sites.loaded; world = p.world; moving = p.moving; pinned = p.pinned; tasks = p.tasks }) is
    ∙ ap (λ (l : List Bool). record moved { loaded = l }) entries.loaded
    in
    let goes = ap (λ (w : World). enabled_or_gone state patch w None) made ∙ ap (enabled_or_gone state patch (world_then before catalog patch)) (sym none) in
    step_accepted laws before after catalog now (Enable patch) Started holds free (record {
      says = ap (λ (r : Reply × State). r.0) goes;
      state = state_is ∙ ap (λ (r : Reply × State). r.1) goes;
      runs = runs;
      image = entries.image;
      modules = ap (λ (p : ManagerState). p.modules) is ∙ ap (λ (m : ModuleTable). record before.modules { loaded = m.loaded }) holds.modules_are
          ∙ ap (λ (l : List Bool). record before.modules { loaded = l }) (sym entries.loaded);
      entries = λ site. entries.entries site
          ∙ put_last top setting state (state_in after now) patch site entries.loaded
          (ap (λ (s : State). numbers_of s.world) state_is ∙ more)
          (is_covered before.sites None site) (loaded_in_scope state (object_of setting.image.objects site))
          (entries_at before.sites.stacks site) (holds.entries site);
      room = room;
    })

-- one did: the patch is gone again
pub failed : StepLaws → (before after : ManagerState) (catalog now : Catalog) (patch : ℕ) (object : ℕ × PatchObject) → Invariant before catalog
    → refusal (setting_in before catalog) (state_in before catalog) (Enable patch) ≡ None
    → find refuses (objects_in before catalog patch) ≡ Some object
    → now ≡ after_runs catalog (enable_calls patch (objects_in before catalog patch))
    → (world : World) → world ≡ world_then before catalog patch → numbers_of world ≡ numbers_of before.world ++ patch ∷ []
    → is_one_of patch (numbers_of before.world) ≡ false
    → after ≡ record before { world = without_patch world patch; log = after.log } → after.log.room ≡ MAX_RECORDS
    → AcceptsEvent before after catalog now (Enable patch) (PreFailed patch object.1.object (status_of (script_for Pre object.1.callbacks)))
failed laws before after catalog now patch object holds free found runs world made more apart is room =
    let setting = setting_in before catalog in
    let state = state_in before catalog in
    let reply = PreFailed patch object.1.object (status_of (script_for Pre object.1.callbacks)) in
    let goes = ap (λ (w : World). enabled_or_gone state patch w (Some object)) made ∙ ap (enabled_or_gone state patch (world_then before catalog patch)) (sym found) in
    accepted_at_sites laws before after catalog now (Enable patch) reply holds free (record {
      says = ap (λ (r : Reply × State). r.0) goes;
      state = ap (λ (p : ManagerState). state_in p now) is ∙ ap (λ (r : Reply × State). r.1) goes;
      runs = runs;
      sites = ap (λ (p : ManagerState). p.sites) is;
      modules = ap (λ (p : ManagerState). p.modules) is;
      installed = ap (λ (p : ManagerState). numbers_of p.world) is ∙ gone-again patch world (numbers_of before.world) more apart;
      room = room;
    })
