use Rattle.klp_page.proofs.StayLemmas.{stay_seen}
use Rattle.klp_page.proofs.laws.a_view_has_each_stay.Goals as goal

pub returns : goal.returns
returns c = stay_seen
