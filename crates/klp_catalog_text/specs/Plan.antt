-- What a catalog's text says: the handler, the objects with their symbols, and the patches, in the order of the
-- text.
use Rattle.std.specs.Prelude.{ℕ, Bool, List}
use Rattle.klp_types.specs.Compatible.{SystemState}
use Rattle.klp_types.specs.Image.{Object}
use Rattle.klp_types.specs.Setting.{Callback}
pub use Rattle.klp_catalog_text.specs.Function.{PlanFunction}

-- an object that a patch changes, by its index among the plan's objects, the new functions in it, and the callbacks
-- for it
pub record PlanTarget : Type 0 where
  pub object : ℕ
  pub functions : List PlanFunction
  pub callbacks : List Callback

-- a patch: whether it replaces all older ones, the objects that it changes, and the system states that it names
pub record PlanPatch : Type 0 where
  pub name : List ℕ
  pub replace : Bool
  pub targets : List PlanTarget
  pub states : List SystemState

pub record Plan : Type 0 where
  pub handler : ℕ
  pub objects : List Object
  pub patches : List PlanPatch
