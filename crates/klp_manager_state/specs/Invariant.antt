-- What every manager keeps, with its catalog.
use Rattle.std.specs.Prelude.{◌≡◌, ℕ}
use Rattle.klp_types.specs.declared.limits.TheConstants.{MAX_RECORDS}
use Rattle.klp_model.specs.Allowed.{Allowed}
use Rattle.klp_model.specs.Stated.{IsStated}
use Rattle.klp_text.specs.TextImage.{IsWithinLimits}
use Rattle.klp_modules.specs.Names.{names_of}
use Rattle.klp_catalog.specs.Catalog.{Catalog}
use Rattle.klp_stack.specs.Stack.{entries_at}
use Rattle.klp_manager_state.specs.declared.state.ManagerState.{ManagerState}
use Rattle.klp_manager_state.specs.Managed.{setting_in, state_in, entries_in}

-- what a manager keeps between events
pub record Invariant (manager : ManagerState) (catalog : Catalog) : Type 0 where
  -- the state is one that events can lead to
  pub allowed : Allowed (setting_in manager catalog) (state_in manager catalog)
  pub stated : IsStated (setting_in manager catalog) (state_in manager catalog)
  pub limits : IsWithinLimits manager.sites.image.objects
  -- the names are the image's, and both have the same objects loaded
  pub modules_are : manager.modules ≡ record { names = names_of manager.sites.image.objects; loaded = manager.sites.loaded }
  pub catalog_names : catalog.names ≡ names_of manager.sites.image.objects
  -- the stack of each site has the entries that the state says
  pub entries : (site : ℕ) → entries_at manager.sites.stacks site ≡ entries_in manager catalog site
  -- the log has room for all records that an event may log
  pub room : manager.log.room ≡ MAX_RECORDS
