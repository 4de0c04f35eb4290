use Rattle.klp_catalog.proofs.SiteLemmas.{site_of-named}
use Rattle.klp_catalog.proofs.laws.sites_lie_in_their_objects.Goals as goal

pub returns : goal.returns
returns c = site_of-named
