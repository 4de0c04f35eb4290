use Rattle.std.proofs.Common.{◌≡◌, ◌+◌, ◌≤◌, drop}
use Rattle.std.specs.List.{count_by}
use Rattle.klp_trace_page.specs.Pages.{differs}
use Rattle.klp_trace_page.proofs.differing.count.Given as goal

-- how many there were so far, and how many are left
abbrev pub invariant-loop-row : goal.invariant-loop-row
invariant-loop-row l =
    (l.count ≤ l.row-index) × (l.count + count_by differs (drop l.row-index l.fn.rows) ≡ count_by differs l.fn.rows)
