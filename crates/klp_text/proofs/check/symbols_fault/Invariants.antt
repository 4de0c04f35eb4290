-- The rest of the objects decides.
use Rattle.std.proofs.Common.{◌≡◌, [], take, drop}
use Rattle.klp_types.specs.Image.{symbols_of}
use Rattle.klp_text.specs.Faults.{first_fault, symbols_tests}
use Rattle.klp_text.proofs.check.symbols_fault.Given as goal

abbrev pub invariant-loop-i : goal.invariant-loop-i
invariant-loop-i l =
    first_fault (symbols_tests l.handler (symbols_of (take l.i l.objects)) (symbols_of (drop l.i l.objects)))
    ≡ first_fault (symbols_tests l.handler [] (symbols_of l.objects))
