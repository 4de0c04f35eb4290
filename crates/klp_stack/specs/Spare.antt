-- How many entries all stacks have, and how many more fit.
use Rattle.std.specs.Prelude.{ℕ, ◌-◌, List, length}
use Rattle.std.specs.List.{sum_by}
use Rattle.klp_types.specs.declared.version.Entry.{Entry}
use Rattle.klp_stack.specs.declared.slot.TheConstants.{MAX_ENTRIES}

-- how many entries all stacks have together
abbrev pub held : List (List Entry) → ℕ
held stacks = sum_by length stacks

-- how many more entries fit
abbrev pub spare_in : List (List Entry) → ℕ
spare_in stacks = MAX_ENTRIES - held stacks
