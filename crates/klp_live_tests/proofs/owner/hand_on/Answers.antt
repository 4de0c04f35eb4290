use denote.Exit.{yes}
use Rattle.klp_core.proofs.Sends.{manager_given}
use Rattle.klp_live_tests.specs.contracts.owner.hand_on.dyn-1 as table
use Rattle.klp_live_tests.proofs.owner.hand_on.Goals as goal

-- a manager may cross threads
pub do_work-requires-send-M : goal.do_work-requires-send-M
do_work-requires-send-M g c κs within = let t = g.dyn-1 in manager_given (table.slots g.row.R) t.0 t.1 t.2 _ _ yes
