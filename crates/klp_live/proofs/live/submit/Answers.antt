use Rattle.klp_live.proofs.Outcomes.{outcome}
use Rattle.klp_live.proofs.live.submit.Goals as goal

pub returns : goal.returns
returns g c = outcome g.S.Start.setting g.S.Start.base c.args.event _ _ c.args.seat.now c.admit.new.seat c.admit.result c.admit.ensures
