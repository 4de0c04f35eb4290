use Rattle.std.proofs.Common.{◌≤◌, vec_len, vec_capacity}
use Rattle.klp_types.specs.Setting.{functions_of}
use Rattle.klp_manager_state.specs.Managed.{setting_of}
use Rattle.klp_live.proofs.Changes.{AreFirst, site_at}
use Rattle.klp_live.proofs.change.rows_of.Given as goal

abbrev pub invariant-loop-number : goal.invariant-loop-number
invariant-loop-number g l =
    let m = (g.M.Machine.journaled l.machine).managed in
    AreFirst (setting_of m) m.state (site_at (functions_of (setting_of m) l.patch)) l.number l.rows.items
    × (vec_len l.rows ≤ l.number)
    × (l.functions ≤ vec_capacity l.rows)
