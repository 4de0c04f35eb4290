use Rattle.std.proofs.Common.{◌≡◌, ◌+◌, ◌++◌, map, length}
use Rattle.std.specs.List.{filter_map}
use Rattle.std.specs.Str.Lines.{lines}
use Rattle.klp_module_symbols.specs.Kernel.{first_bad}
use Rattle.klp_module_symbols.specs.Traceable.{is_bad_line, traceable_meaning, traceable_of, traceable_of_line}
use Rattle.klp_module_symbols.proofs.traceable.read_traceable.Given as goal

-- the functions so far and those of the lines that are left are all functions, and no line so far is bad
abbrev pub invariant-loop-line : goal.invariant-loop-line
invariant-loop-line l = record {
  rows : map traceable_meaning l.rows.items ++ filter_map traceable_of_line l.rest ≡ traceable_of l.fn.text;
  good : first_bad is_bad_line l.number l.rest ≡ first_bad is_bad_line 1 (lines l.fn.text);
  count : l.number + length l.rest ≡ 1 + length (lines l.fn.text);
}

abbrev pub decreases-loop-line : goal.decreases-loop-line
decreases-loop-line l = length l.rest
