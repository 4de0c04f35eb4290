use Rattle.std.proofs.Common.{◌≡◌, [], map, take}
use Rattle.std.specs.List.{fold}
use Rattle.klp_tables.specs.Kpatch.{kpatch_meaning, with_object}
use Rattle.klp_tables.proofs.kpatch.names_of_rows.Given as goal

abbrev pub invariant-loop-row : goal.invariant-loop-row
invariant-loop-row l = map (λ n. n.now) l.names.items ≡ fold with_object [] (map kpatch_meaning (take l.row-index l.rows))
