-- The tests of an object's symbols come before those of the objects behind it.
use Rattle.std.proofs.Common.{◌<◌, ◌∙◌, length, take, ap, arith}
use Rattle.klp_types.specs.Image.{Object, symbols_of}
use Rattle.klp_text.specs.Faults.{first_fault, symbols_tests}
use Rattle.klp_text.proofs.FaultLaws.{symbols_tests-drop_object, fault_found, fault_later}
use Rattle.klp_text.proofs.check.symbols_fault.Goals as goal

pub returns-in-Some : goal.returns-in-Some
returns-in-Some c =
    let below : c.loop-i.i < length c.args.objects.now = omega arith in
    let step = symbols_tests-drop_object c.args.handler c.args.objects.now c.loop-i.i c.index-objects-i.result below c.index-objects-i.is in
    let symbols_are = c.as_slice.ensures.value ∙ ap (λ (object : Object). object.symbols) c.object.view_is in
    let same = ap (λ symbols. first_fault (symbols_tests c.args.handler (symbols_of (take c.loop-i.i c.args.objects.now)) symbols)) symbols_are in
    fault_found _ _ _ _ _ c.loop-i.invariant step (c.in-Some.ensures ∙ same)

pub loop-i-preserved : goal.loop-i-preserved
loop-i-preserved c =
    let below : c.loop-i.i < length c.args.objects.now = omega arith in
    let step = symbols_tests-drop_object c.args.handler c.args.objects.now c.loop-i.i c.index-objects-i.result below c.index-objects-i.is in
    let symbols_are = c.as_slice.ensures.value ∙ ap (λ (object : Object). object.symbols) c.object.view_is in
    let same = ap (λ symbols. first_fault (symbols_tests c.args.handler (symbols_of (take c.loop-i.i c.args.objects.now)) symbols)) symbols_are in
    fault_later _ _ _ _ c.loop-i.invariant step (c.in_default.ensures ∙ same)
