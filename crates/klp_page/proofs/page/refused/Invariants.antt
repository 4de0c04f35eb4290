use Rattle.std.proofs.Common.{◌≡◌, ◌+◌, ◌≤◌, drop}
use Rattle.std.specs.List.{count_by}
use Rattle.klp_page.specs.Pages.{is_refused}
use Rattle.klp_page.proofs.page.refused.Given as goal

-- how many there were so far, and how many are left
abbrev pub invariant-loop-row : goal.invariant-loop-row
invariant-loop-row l =
    (l.count ≤ l.row-index) × (l.count + count_by is_refused (drop l.row-index l.fn.rows) ≡ count_by is_refused l.fn.rows)
