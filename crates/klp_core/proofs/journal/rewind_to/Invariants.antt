use Rattle.std.proofs.Common.{◌≡◌, ◌+◌, length, take}
use Rattle.klp_manager_state.specs.Rows.{rows_in}
use Rattle.klp_core.specs.Journaled.{rows_before_all, groups_in, AreInStep}
use Rattle.klp_core.proofs.journal.rewind_to.Given as goal

-- the oldest events are left, and lead from the same base
abbrev pub invariant-loop-taken : goal.invariant-loop-taken
invariant-loop-taken g l = record {
  kept : AreInStep l.state l.catalog l.journal;
  groups : groups_in l.state l.journal ≡ take (length (groups_in l.state l.journal)) (groups_in l.fn.state l.fn.journal);
  left : length (groups_in l.state l.journal) + l._taken ≡ length (groups_in l.fn.state l.fn.journal) + l.mark;
  base : rows_before_all (rows_in l.state) (groups_in l.state l.journal) ≡ rows_before_all (rows_in l.fn.state) (groups_in l.fn.state l.fn.journal);
  image : l.state.sites.image ≡ l.fn.state.sites.image;
}
