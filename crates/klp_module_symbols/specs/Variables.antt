-- The changes whose position is that of a variable, which no kernel patches.
use Rattle.std.specs.Prelude.{ℕ, zero, suc, ◌-◌, ◌==◌, ◌&&◌, if◌then◌else◌, Bool, false, not, List, [], ◌∷◌, filter, length}
use Rattle.klp_module_matrix.specs.Changes.{Change}
use Rattle.klp_module_symbols.specs.Kernel.{RowFacts}
use Rattle.klp_module_symbols.specs.Symbols.{is_row_of}

-- the row behind so many others is a variable
abbrev pub is_variable_behind : ℕ → List RowFacts → Bool
is_variable_behind before [] = false
is_variable_behind zero (row ∷ rows) = not row.is_function
is_variable_behind (suc before) (row ∷ rows) = is_variable_behind before rows

-- the symbol at a position among those of its name is a variable. Without a position there must be one alone
abbrev pub is_variable_at : ℕ → List RowFacts → Bool
is_variable_at position rows =
    if position == 0 then length rows == 1 && is_variable_behind 0 rows else is_variable_behind (position - 1) rows

-- the symbol that the change picks is a variable
abbrev pub picks_variable : List RowFacts → Change → Bool
picks_variable rows change = is_variable_at change.position (filter (is_row_of change) rows)
