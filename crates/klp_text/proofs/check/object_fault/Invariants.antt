-- The rest of the symbols decides.
use Rattle.std.proofs.Common.{◌≡◌, ◌++◌, take, drop}
use Rattle.klp_types.specs.Image.{symbols_of}
use Rattle.klp_text.specs.Faults.{first_fault, symbols_tests}
use Rattle.klp_text.proofs.check.object_fault.Given as goal

abbrev pub invariant-loop-i : goal.invariant-loop-i
invariant-loop-i l =
    first_fault (symbols_tests l.handler (symbols_of l.earlier ++ take l.i l.symbols) (drop l.i l.symbols))
    ≡ first_fault (symbols_tests l.handler (symbols_of l.earlier) l.symbols)
