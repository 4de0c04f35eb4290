-- Lists of changed rows.
use Rattle.std.specs.Prelude.{◌≡◌, ℕ, ◌==◌, Bool, List, [], ◌∷◌, Option, Some, None, slice_set}
use Rattle.std.specs.List.{list_any}
use Rattle.klp_types.specs.declared.row.SiteRow.{SiteRow}
use Rattle.klp_types.specs.Setting.{Setting}
use Rattle.klp_model.specs.State.{State}
use Rattle.klp_model.specs.Rows.{row_of}

-- a site with its present row, none if the site's object isn't loaded
abbrev pub NewRow : Type 0
NewRow = ℕ × Option SiteRow

-- each of these sites has this row in the state
abbrev pub AreRowsOf : Setting → State → List NewRow → Type 0
AreRowsOf setting state [] = Unit {0}
AreRowsOf setting state (first ∷ rest) = (first.1 ≡ row_of setting state first.0) × AreRowsOf setting state rest

-- whether the list has a row of this site
abbrev pub is_listed : ℕ → List NewRow → Bool
is_listed site rows = list_any (λ (r : NewRow). r.0 == site) rows

-- all rows, after these are set one after the other
abbrev pub with_rows : List (Option SiteRow) → List NewRow → List (Option SiteRow)
with_rows rows [] = rows
with_rows rows (first ∷ rest) = with_rows (slice_set rows first.0 first.1) rest

-- the row of a site as a list, empty without a site
abbrev pub new_row : Setting → State → Option ℕ → List NewRow
new_row setting state None = []
new_row setting state (Some site) = (site, row_of setting state site) ∷ []
