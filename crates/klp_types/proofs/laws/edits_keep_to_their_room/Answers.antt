use Rattle.klp_types.proofs.ScriptLemmas.{edit_room}
use Rattle.klp_types.proofs.laws.edits_keep_to_their_room.Goals as goal

pub returns : goal.returns
returns c = edit_room
