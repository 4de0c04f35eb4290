use Rattle.std.proofs.Common.{◌≡◌, ◌≤◌, take}
use Rattle.klp_manager_state.specs.Managed.{setting_of}
use Rattle.klp_core.specs.Journaled.{IsWellFormed}
use Rattle.klp_core.specs.Taking.{AreTaken}
use Rattle.klp_core.proofs.manager.Manager.run.Given as goal

-- the events so far were taken, and so many of them accepted and refused
abbrev pub invariant-loop-event : goal.invariant-loop-event
invariant-loop-event g l = record {
  taken : AreTaken l.initial.self l.self (take l.event-index l.events) (l.accepted, l.refused);
  accepted : l.accepted ≤ l.event-index;
  refused : l.refused ≤ l.event-index;
  setting : setting_of l.self.managed ≡ setting_of l.initial.self.managed;
  well_formed : IsWellFormed l.self;
}
