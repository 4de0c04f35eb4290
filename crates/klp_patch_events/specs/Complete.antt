-- What completing a transition needs of the stacks, and what it leaves.
use Rattle.std.specs.Prelude.{◌≡◌, ℕ, ◌||◌, true, is_some, Some, List}
use Rattle.klp_types.specs.declared.limits.TheConstants.{MAX_RECORDS}
use Rattle.klp_types.specs.declared.version.Entry.{Entry}
use Rattle.klp_types.specs.declared.version.Transition.{Transition}
use Rattle.klp_types.specs.Setting.{function_for}
use Rattle.klp_model.specs.Callbacks.{end_calls}
use Rattle.klp_model.specs.Completing.{completed}
use Rattle.klp_model.specs.Entries.{entries_of}
use Rattle.klp_catalog.specs.Catalog.{Catalog}
use Rattle.klp_catalog.specs.Runs.{after_runs}
use Rattle.klp_catalog.specs.States.{is_cumulative}
use Rattle.klp_stack.specs.Stack.{entries_at, has_entry}
use Rattle.klp_patch.specs.Covered.{functions_in}
use Rattle.klp_manager_state.specs.declared.state.ManagerState.{ManagerState}
use Rattle.klp_manager_state.specs.Managed.{setting_in, state_in}

-- a patch has entries only at sites where it has a function, unless it is cumulative
abbrev pub AreOwn : Catalog → List (List Entry) → Type 0
AreOwn catalog stacks = (patch site : ℕ) → has_entry patch (entries_at stacks site) ≡ true
    → (is_some (function_for (functions_in catalog patch) site) || is_cumulative catalog patch) ≡ true

-- a transition is complete
pub record IsCompleted (before after : ManagerState) (catalog_before catalog_after : Catalog) (move : Transition) : Type 0 where
  -- the state is the one that the model says
  pub state : (state_in after catalog_after) ≡ (completed (setting_in before catalog_before) (state_in before catalog_before) move).1
  -- the callbacks of its end ran
  pub runs : catalog_after ≡ after_runs catalog_before (end_calls (setting_in before catalog_before) (state_in before catalog_before) (Some move))
  pub image : after.sites.image ≡ before.sites.image
  pub modules : after.modules ≡ before.modules
  -- the stack of each site has the entries that the state says
  pub entries : (site : ℕ) → entries_at after.sites.stacks site
      ≡ entries_of (setting_in before catalog_before) (state_in after catalog_after) site
  pub room : after.log.room ≡ MAX_RECORDS
