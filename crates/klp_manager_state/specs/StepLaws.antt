-- The facts that each step keeps, whatever the event.
use Rattle.std.specs.Prelude.{◌≡◌, []}
use Rattle.klp_types.specs.Setting.{Setting}
use Rattle.klp_model.specs.declared.event.Event.{Event}
use Rattle.klp_model.specs.State.{State}
use Rattle.klp_model.specs.Allowed.{Allowed}
use Rattle.klp_model.specs.Run.{next}
use Rattle.klp_model.specs.Stated.{IsStated}
use Rattle.klp_catalog.specs.Catalog.{Catalog}
use Rattle.klp_catalog.specs.Runs.{after_runs}

-- the facts that each step keeps
pub record StepLaws : Type 0 where
  -- an allowed state leads to an allowed state
  pub allowed : (setting : Setting) (state : State) (event : Event) → Allowed setting state → Allowed setting (next setting state event)
  -- installed patches keep having the states that the catalog gives them
  pub stated : (setting : Setting) (state : State) (event : Event) → IsStated setting state → IsStated setting (next setting state event)
  -- if no callback runs, no count grows
  pub none : (catalog : Catalog) → after_runs catalog [] ≡ catalog
