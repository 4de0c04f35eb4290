-- The tests of a symbol come before those of the symbols behind it.
use Rattle.std.proofs.Common.{◌<◌, length, arith}
use Rattle.klp_types.specs.Image.{symbols_of}
use Rattle.klp_text.proofs.FaultLaws.{symbols_tests-drop, fault_found, fault_later}
use Rattle.klp_text.proofs.check.object_fault.Goals as goal

pub returns-in-Some : goal.returns-in-Some
returns-in-Some c =
    let below : c.loop-i.i < length c.args.symbols.now = omega arith in
    let step = symbols_tests-drop c.args.handler (symbols_of c.args.earlier.now) c.args.symbols.now c.loop-i.i _ below c.index-symbols-i.is in
    fault_found _ _ _ _ _ c.loop-i.invariant step c.in-Some.ensures

pub loop-i-preserved : goal.loop-i-preserved
loop-i-preserved c =
    let below : c.loop-i.i < length c.args.symbols.now = omega arith in
    let step = symbols_tests-drop c.args.handler (symbols_of c.args.earlier.now) c.args.symbols.now c.loop-i.i _ below c.index-symbols-i.is in
    fault_later _ _ _ _ c.loop-i.invariant step c.in_default.ensures
