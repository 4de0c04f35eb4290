use Rattle.std.proofs.Common.{◌≡◌, ◌++◌, map, reverse, take}
use Rattle.klp_world.specs.StoredEvent.{state_row}
use Rattle.klp_world.proofs.world.note_states.Given as goal

-- what is logged and what is left are all
abbrev pub invariant-loop-place : goal.invariant-loop-place
invariant-loop-place l = record {
  all : l.log.logged ++ map (state_row l.patch) (reverse (take l.place l.states)) ≡ l.initial.log.logged ++ map (state_row l.patch) (reverse l.states);
  room : l.log.room ≡ l.initial.log.room;
  older : l.log.older ≡ l.initial.log.older;
}
