use Rattle.klp_modules.proofs.SiteLaws.{first_site-names_of}
use Rattle.klp_modules.proofs.laws.first_site_as_in_image.Goals as goal

pub returns : goal.returns
returns c = first_site-names_of
