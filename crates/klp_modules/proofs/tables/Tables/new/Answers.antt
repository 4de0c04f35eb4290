-- There are as many symbols as the objects have together.
use Rattle.std.proofs.Common.{length, ap, arith}
use Rattle.klp_modules.proofs.TableLaws.{length-placed_symbols}
use Rattle.klp_modules.proofs.tables.Tables.new.Goals as goal

pub sites_by_name-requires-clause-few : goal.sites_by_name-requires-clause-few
sites_by_name-requires-clause-few c =
    omega (arith, ap length c.deref.ensures.value, ap length c.in_ok-symbols.ensures, length-placed_symbols 0 c.args.objects.now, c.requires.few_symbols)
