use Rattle.std.proofs.Common.{◌≡◌, ◌*◌}
use Rattle.klp_elf.specs.Rows.{symbol_at}
use Rattle.klp_elf.specs.Tables.{first_values}
use Rattle.klp_elf.proofs.table.symbol_rows.Given as goal

abbrev pub invariant-loop-k : goal.invariant-loop-k
invariant-loop-k l = l.symbols.items ≡ first_values (λ k. symbol_at (24 * k) l.table) l.k
