use Rattle.std.proofs.Common.{rules}
use Rattle.klp_patch_events.proofs.module.coming_refusal.Goals as goal

pub returns-then-lacks_room-clause-refusal : goal.returns-then-lacks_room-clause-refusal
returns-then-lacks_room-clause-refusal g c = search rules
