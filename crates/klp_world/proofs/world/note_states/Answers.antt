use Rattle.std.proofs.Common.{map, reverse, take, arith}
use Rattle.klp_world.specs.StoredEvent.{state_row}
use Rattle.klp_world.proofs.LoggedLemmas.{room_to_note, length-states, states_left}
use Rattle.klp_world.proofs.world.note_states.Goals as goal

pub note-requires : goal.note-requires
note-requires c =
    let left = states_left c.args.patch c.args.states.now c.loop-place.place c.loop-place.auto.place in
    let all = length-states c.args.patch c.args.states.now in
    room_to_note c.loop-place.log.logged (map (state_row c.args.patch) (reverse (take c.loop-place.place c.args.states.now))) c.args.log.now.logged (map (state_row c.args.patch) (reverse c.args.states.now))
    c.loop-place.log.room c.args.log.now.room c.loop-place.invariant.all c.loop-place.invariant.room (omega arith) (omega arith) (omega (arith, c.requires))
