use Rattle.klp_timeline.proofs.TellingLemmas.{no_sleeper_left_out}
use Rattle.klp_timeline.proofs.laws.no_sleeper_is_left_out.Goals as goal

pub returns : goal.returns
returns c = no_sleeper_left_out
