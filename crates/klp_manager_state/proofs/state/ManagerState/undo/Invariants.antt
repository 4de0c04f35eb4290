use Rattle.std.proofs.Common.{◌≡◌, true, [], length}
use Rattle.klp_manager_state.specs.Rows.{rows_in, undone, are_due}
use Rattle.klp_manager_state.proofs.state.ManagerState.undo.Given as goal

-- to put back those that are left gives what all of them give, and they can be put back
abbrev pub invariant-loop : goal.invariant-loop
invariant-loop l = record {
  rows : undone (rows_in l.self) l.self.log.logged ≡ undone (rows_in l.fn.self) l.fn.self.log.logged;
  due : are_due (rows_in l.self) l.self.log.logged ≡ true;
  modules : l.self.modules ≡ record l.fn.self.modules { loaded = l.self.sites.loaded };
  objects : length l.self.sites.loaded ≡ length l.self.sites.image.objects;
  log : record l.self.log { logged = [] } ≡ record l.fn.self.log { logged = [] };
  blocked : l.self.blocked ≡ l.fn.self.blocked;
}

abbrev pub decreases-loop : goal.decreases-loop
decreases-loop l = length l.self.log.logged
