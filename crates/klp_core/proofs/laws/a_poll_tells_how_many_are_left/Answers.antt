use Rattle.klp_core.proofs.HoldersLemmas.{left_by_poll}
use Rattle.klp_core.proofs.laws.a_poll_tells_how_many_are_left.Goals as goal

pub returns : goal.returns
returns c = left_by_poll
