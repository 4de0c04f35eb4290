use Rattle.std.proofs.Common.{◌≡◌, map, take}
use Rattle.klp_module_symbols.specs.Kernel.{row_meaning}
use Rattle.klp_kernel_image.specs.Rows.{symbol_row}
use Rattle.klp_kernel_image.proofs.image.KernelImage.rows.Given as goal

-- the rows of those symbols that were looked at
abbrev pub invariant-loop-symbol : goal.invariant-loop-symbol
invariant-loop-symbol l = map row_meaning l.rows.items ≡ map (symbol_row l.self.text.items) (take l.symbol-index l.symbol-items)
