-- Which patches may be installed together: their system states decide.
use Rattle.std.specs.Prelude.{ℕ, ◌==◌, not, Bool, nat_le, List, Option, Some, None, find, option_map}
use Rattle.std.specs.List.{list_all}

-- a system state that a patch names: its id, and the version with which the patch knows it
pub record SystemState : Type 0 where
  pub id : ℕ
  pub version : ℕ

-- the version with which the state of this id is named, if it is
abbrev pub version_among : ℕ → List SystemState → Option ℕ
version_among id states = option_map (λ (s : SystemState). s.version) (find (λ (s : SystemState). s.id == id) states)

-- whether a patch is compatible with a state of an installed patch: it names the state with the same or a higher
-- version, or doesn't name it and isn't cumulative
abbrev pub is_compatible_with : Bool → SystemState → Option ℕ → Bool
is_compatible_with replace state None = not replace
is_compatible_with replace state (Some version) = nat_le state.version version

-- whether a patch is compatible with each state of each installed patch
abbrev pub is_compatible : Bool → List SystemState → List (List SystemState) → Bool
is_compatible replace own installed = list_all (list_all (λ (s : SystemState). is_compatible_with replace s (version_among s.id own))) installed
