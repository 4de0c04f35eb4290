use Rattle.klp_live.proofs.Picking.{entered_is}
use Rattle.klp_live.proofs.target.what_is_entered_is_what_is_picked.Goals as goal

pub returns : goal.returns
returns c setting state task site = entered_is setting state task site
