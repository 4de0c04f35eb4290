-- The next parent object that a manager tells of is the next one that has a variable of the id.
use Rattle.std.proofs.Common.{ℕ, Option, Some, None}
use Rattle.klp_types.specs.World.{World, variable}
use Rattle.klp_world.specs.Parents.{IsNextParent}
use Rattle.klp_lint.specs.Undone.{IsNextOf}

pub next_there : (world : World) (id from : ℕ) (next : Option ℕ) → IsNextParent world.shadow id from next → IsNextOf (variable world) id from next
next_there world id from None none = none
next_there world id from (Some parent) next = (next.0, next.2)
