-- What the lines of a catalog mark, line by line.
use Rattle.std.proofs.Common.{ℕ, Bool, if◌then◌else◌, List, ◌∷◌}
use Rattle.klp_module_catalog.specs.declared.marks.Marked.{Marked}
use Rattle.klp_module_catalog.specs.Marks.{is_marked_by, marks_of}

-- the marks that some lines have, where the line before them is of the kind, or isn't
abbrev pub pending : Marked → Bool → List (List ℕ) → List Bool
pending kind wanted lines = if wanted then is_marked_by kind lines ∷ marks_of kind lines else marks_of kind lines
