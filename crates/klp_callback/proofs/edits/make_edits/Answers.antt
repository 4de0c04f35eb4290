use Rattle.std.proofs.Common.{ap, ◌∙◌}
use Rattle.klp_types.specs.Records.{RecordList}
use Rattle.klp_callback.proofs.EditLemmas.{next_edit, world_step, logged_step, room_step, room_left, room_now}
use Rattle.klp_callback.proofs.edits.make_edits.Goals as goal

pub make_edit-requires : goal.make_edit-requires
make_edit-requires c = record { room = room_now c.args.patch c.args.edits.now c.loop-edit.edit-index _ c.loop-edit.world c.loop-edit.log c.edit-item.is c.loop-edit-test.true c.loop-edit.invariant.room }

pub loop-edit-preserved : goal.loop-edit-preserved
loop-edit-preserved c =
    let split = next_edit c.args.edits.now c.loop-edit.edit-index _ c.edit-item.is c.loop-edit-test.true in
    let made = c.make_edit.ensures.changes.world in
    let logged = c.make_edit.ensures.changes.records in
    record {
      world = world_step _ _ _ _ _ _ _ _ split made logged ∙ c.loop-edit.invariant.world;
      logged = logged_step _ _ _ _ _ _ _ _ split made logged ∙ c.loop-edit.invariant.logged;
      same_room = room_step _ _ _ _ _ _ _ _ split made logged ∙ c.loop-edit.invariant.same_room;
      same_older = ap (λ (l : RecordList). l.older) logged ∙ c.loop-edit.invariant.same_older;
      room = room_left _ _ _ _ _ _ _ _ split made logged c.edits_keep_to_their_room.ensures c.loop-edit.invariant.room;
    }
