-- An object has no more symbols than there are.
use Rattle.std.proofs.Common.{◌<◌, length, ap, arith, refl}
use Rattle.std.proofs.lemmas.Option.{slice_get_read}
use Rattle.klp_modules.proofs.TableLaws.{symbols_few}
use Rattle.klp_modules.proofs.tables.symbols_by_site.Goals as goal

pub add_symbols-requires : goal.add_symbols-requires
add_symbols-requires c =
    let below : c.loop-place.place < length c.args.objects.now = omega arith in
    let here = slice_get_read c.args.objects.now _ c.loop-place.place c.index-objects-place.result refl below c.index-objects-place.is in
    omega (arith, symbols_few c.args.objects.now c.loop-place.place c.index-objects-place.result here, ap length c.deref.ensures.value, c.requires.few_symbols)
