use Rattle.klp_words.proofs.LaneLemmas.{either_lanes}
use Rattle.klp_words.proofs.lanes.lanes_with.Goals as goal

pub returns : goal.returns
returns c = either_lanes c.args.lanes c.args.one c.args.other c.fits-lanes.0
