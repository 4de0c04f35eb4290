use Rattle.std.proofs.Common.{◌≡◌, ◌*◌, ◌++◌}
use Rattle.klp_elf.specs.Rows.{relocation_at}
use Rattle.klp_elf.specs.Tables.{first_values}
use Rattle.klp_elf.proofs.relocations.append_rows.Given as goal

abbrev pub invariant-loop-k : goal.invariant-loop-k
invariant-loop-k l = l.relocations.items ≡ l.initial.relocations.items ++ first_values (λ k. relocation_at l.section (24 * k) l.table) l.k
