use Rattle.std.proofs.Common.{◌≡◌, ◌+◌, ◌++◌, map, length}
use Rattle.std.specs.List.{filter_map}
use Rattle.std.specs.Str.Lines.{lines}
use Rattle.klp_module_symbols.specs.Kernel.{first_bad, is_bad, row_meaning, row_of_line, rows_of}
use Rattle.klp_module_symbols.proofs.rows.rows_in.Given as goal

-- the rows so far and those of the lines that are left are all rows, and no line so far is bad
abbrev pub invariant-loop-line : goal.invariant-loop-line
invariant-loop-line l = record {
  rows : map row_meaning l.rows.items ++ filter_map row_of_line l.rest ≡ rows_of l.fn.text;
  good : first_bad is_bad l.number l.rest ≡ first_bad is_bad 1 (lines l.fn.text);
  count : l.number + length l.rest ≡ 1 + length (lines l.fn.text);
}

abbrev pub decreases-loop-line : goal.decreases-loop-line
decreases-loop-line l = length l.rest
