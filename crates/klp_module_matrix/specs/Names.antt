-- What objects are called.
use Rattle.std.specs.Prelude.{ℕ, List, codes, Option, Some, None, option_map}
use Rattle.klp_tables.specs.declared.patch.ObjectRow.{ObjectRow}

-- the name of the kernel's image stands in for none
abbrev pub object_name : Option (List ℕ) → List ℕ
object_name None = codes "vmlinux"
object_name (Some name) = name

abbrev pub name_of_row : ObjectRow → List ℕ
name_of_row row = object_name (option_map (λ n. n.now) row.name)
