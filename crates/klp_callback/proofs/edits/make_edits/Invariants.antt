use Rattle.std.proofs.Common.{◌≡◌, ◌++◌, drop}
use Rattle.klp_types.specs.Script.{alloc_count, edited_by}
use Rattle.klp_world.specs.StoredEvent.{rows_of_edits}
use Rattle.klp_world.specs.Changes.{HasRoom}
use Rattle.klp_callback.proofs.edits.make_edits.Given as goal

-- what is done and what is left are all, and there is room for what is left
abbrev pub invariant-loop-edit : goal.invariant-loop-edit
invariant-loop-edit l = record {
  world : edited_by l.patch l.world (drop l.edit-index l.edits) ≡ edited_by l.patch l.initial.world l.edits;
  logged : l.log.logged ++ rows_of_edits l.patch l.world (drop l.edit-index l.edits) ≡ l.initial.log.logged ++ rows_of_edits l.patch l.initial.world l.edits;
  same_room : l.log.room ≡ l.initial.log.room;
  same_older : l.log.older ≡ l.initial.log.older;
  room : HasRoom l.world l.log (alloc_count (drop l.edit-index l.edits)) (rows_of_edits l.patch l.world (drop l.edit-index l.edits));
}
