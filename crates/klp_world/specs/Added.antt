-- Why a shadow variable can't be added.
use Rattle.std.specs.Prelude.{[], ◌∷◌, Option, nat_le, is_some}
use Rattle.std.specs.FinMap as finite
use Rattle.klp_types.specs.declared.limits.TheConstants.{MAX_VARIABLES}
use Rattle.klp_types.specs.declared.shadow.ShadowKey.{ShadowKey}
use Rattle.klp_types.specs.FirstOf.{first_of}
use Rattle.klp_types.specs.World.{Shadow}
use Rattle.klp_world.specs.declared.shadow_table.NotAdded.{NotAdded}
use Rattle.klp_world.specs.declared.shadow_table.NotAdded.TheVariants.{Exists, Full}

-- the reason why it can't be added, if any: that it exists is reported before that there is no room
abbrev pub against : Shadow → ShadowKey → Option NotAdded
against shadow key =
    first_of ((is_some (finite.get shadow key), Exists) ∷ (nat_le MAX_VARIABLES (finite.len shadow), Full) ∷ [])
