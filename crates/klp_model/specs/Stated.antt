-- The values of system states that installed patches have.
use Rattle.std.specs.Prelude.{◌≡◌, ℕ, map}
use Rattle.klp_types.specs.Setting.{Setting, state_ids}
use Rattle.klp_types.specs.World.{Installed}
use Rattle.klp_model.specs.State.{State, installed_patches}

-- each installed patch has a value for each system state that it names in the catalog, in that order
abbrev pub IsStated : Setting → State → Type 0
IsStated setting state = map (λ (i : Installed). map (λ (v : ℕ × ℕ). v.0) i.values) state.world.installed ≡ map (state_ids setting) (installed_patches state)
