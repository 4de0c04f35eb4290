-- The parent objects that have a shadow variable of an id.
use Rattle.std.specs.Prelude.{◌≡◌, ℕ, ◌+◌, ◌<◌, ◌≤◌, List, Option, Some, None, is_some, true}
use Rattle.std.specs.FinMap as finite
use Rattle.klp_types.specs.declared.shadow.ShadowKey.{ShadowKey}
use Rattle.klp_types.specs.World.{Shadow, ShadowValue}
use Rattle.klp_world.specs.Slots.{in_slot}

-- the lowest address above this one, or the lowest of all without one
abbrev pub lowest_above : Option ℕ → ℕ
lowest_above None = 0
lowest_above (Some last) = last + 1

-- the lowest parent object at or above an address that has a variable of the id, or None if none has one there
abbrev pub IsNextParent : Shadow → ℕ → ℕ → Option ℕ → Type 0
IsNextParent shadow id from None = (other : ℕ) → from ≤ other → finite.get shadow (record { obj = other; id = id }) ≡ None
IsNextParent shadow id from (Some parent) =
    (from ≤ parent) × (is_some (finite.get shadow (record { obj = parent; id = id })) ≡ true)
    × ((other : ℕ) → from ≤ other → other < parent → finite.get shadow (record { obj = other; id = id }) ≡ None)

-- a parent object that one of the first `end` slots has, with this id and at or above the address
abbrev pub IsParentBefore : ℕ → ℕ → ℕ → List (ShadowKey × ShadowValue) → ℕ → Type 0
IsParentBefore id from end table parent = (from ≤ parent) × (slot : ℕ) × (slot < end) × ((in_slot table slot).0 ≡ record { obj = parent; id = id })

-- the lowest of these parent objects, or None if there is none
abbrev pub IsLowest : ℕ → ℕ → ℕ → List (ShadowKey × ShadowValue) → Option ℕ → Type 0
IsLowest id from end table None = (other : ℕ) → IsParentBefore id from end table other → ⊥
IsLowest id from end table (Some parent) =
    IsParentBefore id from end table parent × ((other : ℕ) → IsParentBefore id from end table other → parent ≤ other)
