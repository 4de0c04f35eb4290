use Rattle.std.proofs.Common.{inr}
use Rattle.klpsim.proofs.race.Goals as goal

pub returns-in-Ok : goal.returns-in-Ok
returns-in-Ok g c = inr (_, _, _, _, c.live.ensures)
