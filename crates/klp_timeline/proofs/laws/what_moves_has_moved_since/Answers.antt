use Rattle.klp_timeline.proofs.CourseLemmas.{going_since}
use Rattle.klp_timeline.proofs.laws.what_moves_has_moved_since.Goals as goal

pub returns : goal.returns
returns c = going_since
