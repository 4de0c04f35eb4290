-- The system states that the patches of a catalog name.
use Rattle.std.specs.Prelude.{ℕ, ◌==◌, Bool, List, [], ◌∷◌, map, find, reverse, slice_get, Option, is_some, if◌then◌else◌}
use Rattle.klp_types.specs.Compatible as compatible
use Rattle.klp_types.specs.Compatible.{SystemState, version_among}
use Rattle.klp_types.specs.Setting.{patch_states, patch_replaces}
use Rattle.klp_catalog.specs.Catalog.{Catalog, patches_of}

-- the system states that a patch of the catalog names
abbrev pub states_of : Catalog → ℕ → List SystemState
states_of catalog patch = patch_states (slice_get (patches_of catalog) patch)

-- the ids of the system states that a patch names, in order
abbrev pub state_ids : Catalog → ℕ → List ℕ
state_ids catalog patch = map (λ (s : SystemState). s.id) (states_of catalog patch)

-- whether a patch of the catalog is cumulative
abbrev pub is_cumulative : Catalog → ℕ → Bool
is_cumulative catalog patch = patch_replaces (slice_get (patches_of catalog) patch)

-- whether a patch of the catalog can be installed beside these
abbrev pub is_compatible : Catalog → ℕ → List ℕ → Bool
is_compatible catalog patch installed =
    compatible.is_compatible (is_cumulative catalog patch) (states_of catalog patch) (map (states_of catalog) installed)

-- the patches that were installed before this one, oldest first; all of them if it isn't among them
abbrev pub installed_before : ℕ → List ℕ → List ℕ
installed_before patch [] = []
installed_before patch (first ∷ newer) = if first == patch then [] else first ∷ installed_before patch newer

-- whether a patch of the catalog names the state with this id
abbrev pub names_state : Catalog → ℕ → ℕ → Bool
names_state catalog id patch = is_some (version_among id (states_of catalog patch))

-- the newest of the patches installed before this one that names the state
abbrev pub previous_state : Catalog → ℕ → ℕ → List ℕ → Option ℕ
previous_state catalog patch id installed = find (names_state catalog id) (reverse (installed_before patch installed))
