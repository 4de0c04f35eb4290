use Rattle.std.proofs.Common.{◌≡◌, ◌++◌, ◌+◌, ◌≤◌, false, drop}
use Rattle.klp_page.specs.Text.{differences_from, differences_text}
use Rattle.klp_page.proofs.differences.add_differences.Given as goal

-- what is written, and what is left to be
abbrev pub invariant-loop-index : goal.invariant-loop-index
invariant-loop-index l = l.sheet.is_short ≡ false
    → (l.initial.sheet.is_short ≡ false) × (l.sheet.text ++ differences_from l.names (l.index + 1) l.left (drop l.index l.rows) ≡ l.initial.sheet.text ++ differences_text l.names l.rows)
