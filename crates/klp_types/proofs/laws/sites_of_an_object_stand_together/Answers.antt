use Rattle.klp_types.proofs.SiteLemmas.{slice_get-symbols_of, first_site-below}
use Rattle.klp_types.proofs.laws.sites_of_an_object_stand_together.Goals as goal

pub returns-clause-symbols : goal.returns-clause-symbols
returns-clause-symbols c = slice_get-symbols_of

pub returns-clause-within : goal.returns-clause-within
returns-clause-within c = first_site-below
