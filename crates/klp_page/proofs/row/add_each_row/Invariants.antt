use Rattle.std.proofs.Common.{◌≡◌, ◌++◌, ◌+◌, ◌≤◌, false, drop}
use Rattle.klp_page.specs.Text.{rows_from}
use Rattle.klp_page.proofs.row.add_each_row.Given as goal

-- what is written, and what is left to be
abbrev pub invariant-loop-index : goal.invariant-loop-index
invariant-loop-index l = (l.quiet ≤ l.index) × (l.sheet.is_short ≡ false
    → (l.initial.sheet.is_short ≡ false) × (l.sheet.text ++ rows_from l.names l.set_up l.quiet (l.index + 1) (drop l.index l.rows) ≡ l.initial.sheet.text ++ rows_from l.names l.set_up 0 1 l.rows))
