use Rattle.std.proofs.Common.{◌≤◌, vec_len, vec_capacity}
use Rattle.klp_manager_state.specs.Managed.{setting_of}
use Rattle.klp_live.proofs.Changes.{AreFirst, site_from}
use Rattle.klp_live.proofs.change.rows_inside.Given as goal

abbrev pub invariant-loop-place : goal.invariant-loop-place
invariant-loop-place g l =
    let m = (g.M.Machine.journaled l.machine).managed in
    AreFirst (setting_of m) m.state (site_from l.first) l.place l.rows.items
    × (vec_len l.rows ≤ l.place)
    × (l.sites ≤ vec_capacity l.rows)
