use Rattle.std.proofs.Common.{◌≡◌, take}
use Rattle.klp_manager_state.specs.Managed.{setting_of}
use Rattle.klp_core.specs.Journaled.{IsWellFormed}
use Rattle.klp_watch.proofs.WatchedLemmas.{SoFar}
use Rattle.klp_watch.proofs.watching.watch_all.Given as goal

-- the items so far are done
abbrev pub invariant-loop-done : goal.invariant-loop-done
invariant-loop-done g l = record {
  run : SoFar l.fn.manager l.manager l.inside.rows (take l.done l.items);
  setting : setting_of l.manager.managed ≡ setting_of l.fn.manager.managed;
  well_formed : IsWellFormed l.manager;
}
