use Rattle.std.proofs.Common.{◌≡◌, drop, length}
use Rattle.klp_live.specs.Listed.{with_rows}
use Rattle.klp_live.proofs.change.put_rows.Given as goal

abbrev pub invariant-loop-place : goal.invariant-loop-place
invariant-loop-place l = (length l.table ≡ 256) × (with_rows l.table (drop l.place l.rows) ≡ with_rows l.fn.table l.rows)
