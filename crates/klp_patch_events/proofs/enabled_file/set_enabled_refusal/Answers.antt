use Rattle.std.proofs.Common.{arith}
use Rattle.std.proofs.lemmas.Grind.{common_steps}
use Rattle.klp_patch_events.proofs.enabled_file.set_enabled_refusal.Goals as goal

pub returns-then-lacks_room-clause-refusal : goal.returns-then-lacks_room-clause-refusal
returns-then-lacks_room-clause-refusal g c = grind (arith, common_steps)
