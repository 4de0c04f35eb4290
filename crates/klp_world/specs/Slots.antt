-- The table of shadow variables, and in which slot the variable of a key is.
use Rattle.std.specs.Prelude.{◌≡◌, ℕ, List, [], get_or}
use Rattle.std.specs.FinMap as finite
use Rattle.klp_types.specs.declared.shadow.ShadowKey.{ShadowKey}
use Rattle.klp_types.specs.World.{Shadow, ShadowValue, key_cmp}

-- for each key with a variable, its slot
abbrev pub Slots : Type 0
Slots = finite.FinMap key_cmp ℕ

-- the variable in a slot of the table
abbrev pub in_slot : List (ShadowKey × ShadowValue) → ℕ → ShadowKey × ShadowValue
in_slot table slot = get_or table slot (record { obj = 0; id = 0 }, [])

-- a key has a slot exactly when it has a value
abbrev pub SameKeys : Slots → Shadow → Type 0
SameKeys slots shadow = (key : ShadowKey) → finite.contains_key slots key ≡ finite.contains_key shadow key
