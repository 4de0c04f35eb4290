-- One object more.
use Rattle.std.proofs.Common.{◌<◌, length, arith}
use Rattle.klp_modules.proofs.NameLaws.{one_object_more}
use Rattle.klp_modules.proofs.modules.numbered_objects.Goals as goal

pub loop-number-preserved : goal.loop-number-preserved
loop-number-preserved c =
    let below : c.loop-number.number < length c.args.image.now.image.objects = omega (arith, c.objects-number-end.ensures.count) in
    one_object_more _ _ c.args.image.now.image.objects c.loop-number.objects.items _ c.loop-number.number _ c.loop-number.invariant below
    c.in_ok-numbered.ensures c.in_ok-push.ensures.items
