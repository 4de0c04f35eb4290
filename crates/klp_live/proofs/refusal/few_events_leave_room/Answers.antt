use Rattle.klp_live.proofs.Full.{more_than_few}
use Rattle.klp_live.proofs.refusal.few_events_leave_room.Goals as goal

pub returns : goal.returns
returns c = more_than_few
