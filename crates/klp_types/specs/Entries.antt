-- The entries that patches put on a site, computed from the list of patches alone.
use Rattle.std.specs.Prelude.{ℕ, Bool, true, false, ◌&&◌, List, [], ◌∷◌, ◌++◌, Option, Some, None, is_some}
use Rattle.std.specs.List.{list_any}
use Rattle.klp_types.specs.declared.version.Entry.{Entry}
use Rattle.klp_types.specs.Setting.{Setting, functions_of, function_for, replaces}

-- whether a patch has a function for the site
abbrev pub patches_site : Setting → ℕ → ℕ → Bool
patches_site setting site patch = is_some (function_for (functions_of setting patch) site)

-- the entry of one patch: its function for the site, or a nop if it is cumulative and an older patch has a function
-- for the site
abbrev pub entry_of : ℕ → Option ℕ → Bool → List Entry
entry_of patch (Some function) undoes = record { patch = patch; func = Some function } ∷ []
entry_of patch None true = record { patch = patch; func = None } ∷ []
entry_of patch None false = []

-- the entries of the patches, newest first
abbrev pub entries_from : Setting → ℕ → List ℕ → List Entry
entries_from setting site [] = []
entries_from setting site (patch ∷ older) =
    entry_of patch (function_for (functions_of setting patch) site) (replaces setting patch && list_any (patches_site setting site) older)
    ++ entries_from setting site older

abbrev pub is_empty : {A : Type 0} → List A → Bool
is_empty [] = true
is_empty (x ∷ xs) = false
