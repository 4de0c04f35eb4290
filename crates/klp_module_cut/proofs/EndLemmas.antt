-- What parts are looked for in has ended, and the parts haven't.
use Rattle.std.proofs.Common.{◌≡◌, ◌<◌, ◌≤◌, false, List, [], ◌∷◌, length, refl, arith}
use Rattle.klp_module_matrix.specs.declared.functions.Changed.{Changed}
use Rattle.klp_tables.specs.declared.patch.Function.{Function}
use Rattle.klp_tables.specs.declared.patch.Object.{Object}
use Rattle.klp_tables.specs.declared.patch.ObjectRow.{ObjectRow}
use Rattle.klp_module_cut.specs.Cut.{are_among, are_parts_of}

pub more_functions : (others : List Changed) (row : ObjectRow) (kept all : List Function) → length all < 1 → 1 ≤ length kept
    → false ≡ are_among others row kept all
more_functions others row [] all ended more = absurd (omega (arith, more))
more_functions others row (one ∷ kept) [] ended more = refl
more_functions others row (one ∷ kept) (other ∷ all) ended more = absurd (omega (arith, ended))

pub more_parts : (others : List Changed) (parts wholes : List Object) → length wholes < 1 → 1 ≤ length parts → false ≡ are_parts_of others parts wholes
more_parts others [] wholes ended more = absurd (omega (arith, more))
more_parts others (part ∷ parts) [] ended more = refl
more_parts others (part ∷ parts) (whole ∷ wholes) ended more = absurd (omega (arith, ended))
