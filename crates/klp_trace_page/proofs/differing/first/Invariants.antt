use Rattle.std.proofs.Common.{◌≡◌, ◌+◌, drop}
use Rattle.klp_trace_page.specs.Pages.{first_from}
use Rattle.klp_trace_page.proofs.differing.first.Given as goal

-- none of those so far differs
abbrev pub invariant-loop-index : goal.invariant-loop-index
invariant-loop-index l = first_from (l.index + 1) (drop l.index l.rows) ≡ first_from 1 l.rows
