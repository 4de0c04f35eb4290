use Rattle.std.proofs.Common.{◌≡◌, ◌++◌, map, take, drop, None}
use Rattle.klp_types.specs.declared.record.Record.TheVariants.{StateRow}
use Rattle.klp_types.specs.World.{Installed}
use Rattle.klp_world.proofs.world.World.add_states.Given as goal

-- what is logged and what is left are all; the states so far are at 0
abbrev pub invariant-loop-id : goal.invariant-loop-id
invariant-loop-id l = record {
  all : l.log.logged ++ map (λ id. StateRow l.patch id None) (drop l.id-index l.ids) ≡ l.initial.log.logged ++ map (λ id. StateRow l.patch id None) l.ids;
  room : l.log.room ≡ l.initial.log.room;
  older : l.log.older ≡ l.initial.log.older;
  states : ◌≡◌ {A = Installed} l.installed (record { patch = l.patch; values = map (λ id. (id, 0)) (take l.id-index l.ids) });
}
