use Rattle.std.proofs.Common.{◌≡◌, ◌*◌}
use Rattle.klp_elf.specs.Rows.{section_at}
use Rattle.klp_elf.specs.Tables.{first_values}
use Rattle.klp_elf.proofs.table.section_rows.Given as goal

abbrev pub invariant-loop-k : goal.invariant-loop-k
invariant-loop-k l = l.sections.items ≡ first_values (λ k. section_at (64 * k) l.table) l.k
