use Rattle.klp_words.proofs.LaneLemmas.{lanes_beyond}
use Rattle.klp_words.proofs.lanes.lanes_beyond_ascii.Goals as goal

pub returns : goal.returns
returns c = lanes_beyond c.args.lanes c.fits-lanes.0
