use Rattle.std.proofs.Common.{rules}
use Rattle.klp_console_io.proofs.answers.Answers.make_room.Goals as goal

pub returns-else-remaining_capacity-len-clause-room : goal.returns-else-remaining_capacity-len-clause-room
returns-else-remaining_capacity-len-clause-room g c = search rules
