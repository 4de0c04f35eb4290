-- What a step keeps of a manager, whatever the event.
use Rattle.std.proofs.Common.{◌≡◌, ℕ, Bool, List, map, Option, Some, None, Ok, refl, sym, ap, subst, ◌∙◌}
use Rattle.klp_types.specs.declared.limits.TheConstants.{MAX_RECORDS}
use Rattle.klp_types.specs.Image.{Image, object_of}
use Rattle.klp_types.specs.FirstOf.{unless}
use Rattle.klp_types.specs.Setting.{Setting}
use Rattle.klp_types.specs.Callbacks.{Call}
use Rattle.klp_types.specs.World.{Installed}
use Rattle.klp_model.specs.declared.event.Event.{Event}
use Rattle.klp_model.specs.declared.event.Reply.{Reply}
use Rattle.klp_model.specs.declared.event.Refusal.{Refusal}
use Rattle.klp_model.specs.State.{State, installed_patches}
use Rattle.klp_model.specs.Entries.{is_object_loaded, entries_of}
use Rattle.klp_model.specs.EventCalls.{calls}
use Rattle.klp_model.specs.Refusals.{refusal}
use Rattle.klp_model.specs.Step.{accepted, calls_unless}
use Rattle.klp_model.specs.Run.{answer_of, next, state_after}
use Rattle.klp_model.specs.Allowed.{Allowed}
use Rattle.klp_model.specs.Stated.{IsStated}
use Rattle.klp_modules.specs.Names.{ModuleTable}
use Rattle.klp_catalog.specs.Catalog.{Catalog, patches_of}
use Rattle.klp_catalog.specs.Runs.{after_runs}
use Rattle.klp_stack.specs.Stack.{entries_at}
use Rattle.klp_sites.specs.Table.{SiteTable}
use Rattle.klp_manager_state.specs.declared.state.ManagerState.{ManagerState}
use Rattle.klp_manager_state.specs.Managed.{setting_in, state_in}
use Rattle.klp_manager_state.specs.Invariant.{Invariant}
use Rattle.klp_manager_state.specs.Events.{TakesEvent, AcceptsEvent}
use Rattle.klp_manager_state.specs.StepLaws.{StepLaws}
use Rattle.klp_manager_state.specs.Alone.{AreTasksTaken, IsWorldTaken}

-- the manager is as after an event that nothing refuses
pub record IsStep (before after : ManagerState) (catalog now : Catalog) (event : Event) (reply : Reply) : Type 0 where
  pub says : reply ≡ (accepted (setting_in before catalog) (state_in before catalog) event).0
  pub state : state_in after now ≡ (accepted (setting_in before catalog) (state_in before catalog) event).1
  pub runs : now ≡ after_runs catalog (calls (setting_in before catalog) (state_in before catalog) event)
  pub image : after.sites.image ≡ before.sites.image
  pub modules : after.modules ≡ record before.modules { loaded = after.sites.loaded }
  pub entries : (site : ℕ) → entries_at after.sites.stacks site ≡ entries_of (setting_in before catalog) (state_in after now) site
  pub room : after.log.room ≡ MAX_RECORDS

same_setting : (before after : ManagerState) (catalog now : Catalog) (calls : List Call) → after.sites.image ≡ before.sites.image → now ≡ after_runs catalog calls
    → setting_in after now ≡ setting_in before catalog
same_setting before after catalog now calls image runs =
    ap (λ (i : Image). record { image = i; patches = patches_of now }) image
    ∙ ap (λ (k : Catalog). record { image = before.sites.image; patches = patches_of k }) runs

pub next_is : (setting : Setting) (state : State) (event : Event) → refusal setting state event ≡ None → next setting state event ≡ (accepted setting state event).1
next_is setting state event free = ap (λ (r : Option Refusal). state_after state (unless r (accepted setting state event))) free

kept : StepLaws → (before after : ManagerState) (catalog now : Catalog) (event : Event) (reply : Reply) → Invariant before catalog
    → refusal (setting_in before catalog) (state_in before catalog) event ≡ None → IsStep before after catalog now event reply → Invariant after now
kept laws before after catalog now event reply holds free step =
    let setting = setting_in before catalog in
    let state = state_in before catalog in
    let same = same_setting before after catalog now (calls setting state event) step.image step.runs in
    let leads : next setting state event ≡ state_in after now = next_is setting state event free ∙ sym step.state in
    let names = ap (λ (k : Catalog). k.names) step.runs in
    record {
      allowed = subst (λ (s : Setting). Allowed s (state_in after now)) (sym same) (subst (Allowed setting) leads (laws.allowed setting state event holds.allowed));
      stated = subst (λ (s : Setting). IsStated s (state_in after now)) (sym same)
          (subst (IsStated setting) leads (laws.stated setting state event holds.stated));
      limits = rw step.image holds.limits;
      modules_are = step.modules ∙ ap (λ (m : ModuleTable). record m { loaded = after.sites.loaded }) holds.modules_are ∙ rw step.image refl;
      catalog_names = names ∙ holds.catalog_names ∙ rw step.image refl;
      entries = λ site. step.entries site ∙ ap (λ (s : Setting). entries_of s (state_in after now) site) (sym same);
      room = step.room;
    }

pub step_accepted : StepLaws → (before after : ManagerState) (catalog now : Catalog) (event : Event) (reply : Reply) → Invariant before catalog
    → refusal (setting_in before catalog) (state_in before catalog) event ≡ None → IsStep before after catalog now event reply → AcceptsEvent before after catalog now event reply
step_accepted laws before after catalog now event reply holds free step = record {
  accepts = record {
    answered = step.says;
    left = ap (λ (i : Image). record { image = i; catalog = now; state = state_in after now }) step.image
        ∙ ap (λ (k : Catalog). record { image = before.sites.image; catalog = k; state = state_in after now }) step.runs
        ∙ ap (λ (s : State). record { image = before.sites.image; catalog = after_runs catalog (calls (setting_in before catalog) (state_in before catalog) event); state = s }) step.state;
  };
  kept = kept laws before after catalog now event reply holds free step;
}

-- an event that nothing refuses is taken
pub accepted_taken : (before after : ManagerState) (catalog now : Catalog) (event : Event) (reply : Reply)
    → refusal (setting_in before catalog) (state_in before catalog) event ≡ None → AcceptsEvent before after catalog now event reply → TakesEvent before after catalog now event (Ok reply)
accepted_taken before after catalog now event reply free accepted_is =
    let setting = setting_in before catalog in
    let state = state_in before catalog in
    let outcome = accepted setting state event in
    record {
      takes = record {
        answered = ap Ok accepted_is.accepts.answered ∙ sym (ap (λ (r : Option Refusal). answer_of (unless r outcome)) free);
        left = accepted_is.accepts.left
            ∙ ap (λ (s : State). record { image = before.sites.image; catalog = after_runs catalog (calls setting state event); state = s }) (sym (next_is setting state event free))
            ∙ ap (λ (r : Option Refusal). record { image = before.sites.image; catalog = after_runs catalog (calls_unless r (calls setting state event)); state = next setting state event }) (sym free);
      };
      kept = accepted_is.kept;
    }

-- what a site has depends on what is loaded and installed alone
pub same_entries : (setting : Setting) (one other : State) → one.loaded ≡ other.loaded → installed_patches one ≡ installed_patches other → (site : ℕ)
    → entries_of setting one site ≡ entries_of setting other site
same_entries setting one other loaded installed site =
    rw (same_loaded (object_of setting.image.objects site), installed) refl
  where
    same_loaded : (object : Option ℕ) → is_object_loaded one object ≡ is_object_loaded other object
    same_loaded None = refl
    same_loaded (Some object) = rw loaded refl

-- an event that leaves the sites, and the list of installed patches
pub record IsStepAtSites (before after : ManagerState) (catalog now : Catalog) (event : Event) (reply : Reply) : Type 0 where
  pub says : reply ≡ (accepted (setting_in before catalog) (state_in before catalog) event).0
  pub state : state_in after now ≡ (accepted (setting_in before catalog) (state_in before catalog) event).1
  pub runs : now ≡ after_runs catalog (calls (setting_in before catalog) (state_in before catalog) event)
  pub sites : after.sites ≡ before.sites
  pub modules : after.modules ≡ before.modules
  pub installed : map (λ (i : Installed). i.patch) after.world.installed ≡ map (λ (i : Installed). i.patch) before.world.installed
  pub room : after.log.room ≡ MAX_RECORDS

pub accepted_at_sites : StepLaws → (before after : ManagerState) (catalog now : Catalog) (event : Event) (reply : Reply) → Invariant before catalog
    → refusal (setting_in before catalog) (state_in before catalog) event ≡ None → IsStepAtSites before after catalog now event reply
    → AcceptsEvent before after catalog now event reply
accepted_at_sites laws before after catalog now event reply holds free step =
    let loaded = ap (λ (t : SiteTable). t.loaded) step.sites in
    step_accepted laws before after catalog now event reply holds free (record {
      says = step.says;
      state = step.state;
      runs = step.runs;
      image = ap (λ (t : SiteTable). t.image) step.sites;
      modules = step.modules ∙ ap (λ (m : ModuleTable). record before.modules { loaded = m.loaded }) holds.modules_are
          ∙ ap (λ (l : List Bool). record before.modules { loaded = l }) (sym loaded);
      entries = λ site. ap (λ (t : SiteTable). entries_at t.stacks site) step.sites ∙ holds.entries site
          ∙ same_entries (setting_in before catalog) (state_in before catalog) (state_in after now) (sym loaded) (sym step.installed) site;
      room = step.room;
    })

pub taken_at_sites : StepLaws → (before after : ManagerState) (catalog now : Catalog) (event : Event) (reply : Reply) → Invariant before catalog
    → refusal (setting_in before catalog) (state_in before catalog) event ≡ None → IsStepAtSites before after catalog now event reply
    → TakesEvent before after catalog now event (Ok reply)
taken_at_sites laws before after catalog now event reply holds free step =
    accepted_taken before after catalog now event reply free (accepted_at_sites laws before after catalog now event reply holds free step)

-- an event that changes the tasks alone
pub tasks_taken : AreTasksTaken
tasks_taken laws before catalog tasks log event reply holds free quiet is room =
    taken_at_sites laws before (record before { tasks = tasks; log = log }) catalog catalog event reply holds free (record {
      says = rw is refl;
      state = rw is refl;
      runs = sym (ap (after_runs catalog) quiet ∙ laws.none catalog);
      sites = refl;
      modules = refl;
      installed = refl;
      room = room;
    })

-- an event that changes the world alone, and leaves the list of installed patches
pub world_taken : IsWorldTaken
world_taken laws before catalog world log event reply holds free quiet is same room =
    taken_at_sites laws before (record before { world = world; log = log }) catalog catalog event reply holds free (record {
      says = rw is refl;
      state = rw is refl;
      runs = sym (ap (after_runs catalog) quiet ∙ laws.none catalog);
      sites = refl;
      modules = refl;
      installed = same;
      room = room;
    })
