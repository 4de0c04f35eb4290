-- The version of a site, computed from the list of patches alone: nops and the order of entries don't matter.
use Rattle.std.specs.Prelude.{ℕ, ◌==◌, Bool, true, false, List, [], ◌∷◌, Option, Some, None, if◌then◌else◌}
use Rattle.klp_types.specs.declared.version.Version.{Version}
use Rattle.klp_types.specs.declared.version.Version.TheVariants.{Original, New}
use Rattle.klp_types.specs.Setting.{Setting, functions_of, function_for, replaces}

-- the version after one more patch: its own function, or the original if it is cumulative, or else the version of
-- the older ones
abbrev pub chosen : ℕ → ℕ → Option ℕ → Bool → Version → Version
chosen site patch (Some function) replace older = New patch function
chosen site patch None true older = Original site
chosen site patch None false older = older

-- the version that these patches give, newest first
abbrev pub version_in : Setting → ℕ → List ℕ → Version
version_in setting site [] = Original site
version_in setting site (patch ∷ older) =
    chosen site patch (function_for (functions_of setting patch) site) (replaces setting patch) (version_in setting site older)

-- the patches without this one
abbrev pub others : ℕ → List ℕ → List ℕ
others patch [] = []
others patch (first ∷ patches) = if first == patch then others patch patches else first ∷ others patch patches
