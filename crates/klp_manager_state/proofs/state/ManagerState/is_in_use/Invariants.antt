use Rattle.std.proofs.Common.{◌≡◌, false, take}
use Rattle.std.specs.List.{list_any}
use Rattle.klp_model.specs.Frames.{is_inside}
use Rattle.klp_manager_state.specs.Managed.{setting_in}
use Rattle.klp_manager_state.proofs.state.ManagerState.is_in_use.Given as goal

abbrev pub invariant-loop-number : goal.invariant-loop-number
invariant-loop-number g l = list_any (is_inside (setting_in l.self l.catalog) l.object) (take l.number l.self.tasks) ≡ false
