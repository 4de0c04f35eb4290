use Rattle.klp_page.proofs.StayLemmas.{quiet_at_first}
use Rattle.klp_page.proofs.laws.a_booted_manager_is_quiet.Goals as goal

pub returns : goal.returns
returns c = quiet_at_first
