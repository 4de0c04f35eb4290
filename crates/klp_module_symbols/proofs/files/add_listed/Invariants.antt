use Rattle.std.proofs.Common.{◌≡◌, ◌++◌, filter, map, take}
use Rattle.klp_module_symbols.specs.Files.{file_row, is_listed}
use Rattle.klp_module_symbols.specs.Kernel.{row_meaning}
use Rattle.klp_module_symbols.proofs.files.add_listed.Given as goal

-- the rows of those symbols that were looked at
abbrev pub invariant-loop-symbol : goal.invariant-loop-symbol
invariant-loop-symbol l = map row_meaning l.rows.items
    ≡ map row_meaning l.initial.rows.items ++ map (file_row l.elf l.object) (filter (is_listed l.elf) (take l.symbol-index l.symbol-items))
