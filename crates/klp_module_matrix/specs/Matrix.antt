-- What becomes of a patch when another one is loaded over it.
use Rattle.std.specs.Prelude.{ℕ, ◌==◌, ◌&&◌, bytes_eq, max, nat_le, not, Bool, true, false, List, Option, Some, None, option_map}
use Rattle.std.specs.List.{find, list_any}
use Rattle.klp_tables.specs.declared.patch.State.{State}
use Rattle.klp_module_matrix.specs.declared.states.Refusal.{Refusal}
use Rattle.klp_module_matrix.specs.declared.states.Refusal.TheVariants.{Lacks, Older}

abbrev pub has_id : ℕ → State → Bool
has_id id state = state.id == id

-- a state that the newer patch has may not get older; one that it lacks, only a patch may lack that replaces nothing
abbrev pub fits_own : Bool → State → Option State → Bool
fits_own replaces installed None = not replaces
fits_own replaces installed (Some own) = nat_le installed.version own.version

abbrev pub fits : List State → Bool → State → Bool
fits newer replaces installed = fits_own replaces installed (find (has_id installed.id) newer)

abbrev pub refuses : List State → Bool → State → Bool
refuses newer replaces installed = not (fits newer replaces installed)

abbrev pub refused_with : State → Option State → Refusal
refused_with installed None = Lacks installed
refused_with installed (Some own) = Older own installed

abbrev pub refused_by : List State → State → Refusal
refused_by newer installed = refused_with installed (find (has_id installed.id) newer)

-- the first of the older patch's states that doesn't fit refuses the newer patch
abbrev pub refusal_of : List State → List State → Bool → Option Refusal
refusal_of older newer replaces = option_map (refused_by newer) (find (refuses newer replaces) older)
