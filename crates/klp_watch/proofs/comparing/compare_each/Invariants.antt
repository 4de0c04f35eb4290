use Rattle.std.proofs.Common.{◌≡◌, ◌≤◌, take}
use Rattle.klp_model.specs.Observed.{HasNoTask}
use Rattle.klp_manager_state.specs.Managed.{setting_of}
use Rattle.klp_core.specs.Journaled.{IsWellFormed}
use Rattle.klp_watch.specs.Refused.{refused_in}
use Rattle.klp_watch.proofs.ComparedWholeLemmas.{AllSoTo}
use Rattle.klp_watch.proofs.comparing.compare_each.Given as goal

-- the items so far are as the rules say, and these are refused
abbrev pub invariant-loop-done : goal.invariant-loop-done
invariant-loop-done g l = record {
  run : AllSoTo l.fn.manager.managed l.manager.managed l.inside.rows (take l.done l.items);
  setting : setting_of l.manager.managed ≡ setting_of l.fn.manager.managed;
  well_formed : IsWellFormed l.manager;
  refused : HasNoTask l.fn.manager.managed.state
      → l.refused ≡ refused_in (setting_of l.fn.manager.managed) l.fn.manager.managed.state (take l.done l.items);
  few : l.refused.count ≤ l.done;
}
