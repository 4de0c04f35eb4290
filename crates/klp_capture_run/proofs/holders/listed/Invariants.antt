use Rattle.std.proofs.Common.{◌≡◌, ◌++◌, drop}
use Rattle.klp_capture_run.specs.Holders.{holders_from}
use Rattle.klp_capture_run.proofs.holders.listed.Given as goal

-- those so far, and those of the tasks that are left
abbrev pub invariant-loop-number : goal.invariant-loop-number
invariant-loop-number l = l.list.items ++ holders_from l.number (drop l.number l.lags) ≡ holders_from 0 l.lags
