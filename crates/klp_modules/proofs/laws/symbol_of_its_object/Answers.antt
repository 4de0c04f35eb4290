use Rattle.klp_modules.proofs.SiteLaws.{symbol_at_site-object}
use Rattle.klp_modules.proofs.laws.symbol_of_its_object.Goals as goal

pub returns : goal.returns
returns c = symbol_at_site-object
