use Rattle.std.proofs.Common.{◌≡◌, drop}
use Rattle.std.specs.List.{list_any}
use Rattle.klp_manager_state.specs.Managed.{setting_of}
use Rattle.klp_watch.specs.Inside.{are_in}
use Rattle.klp_watch.proofs.inside.Inside.is_entered.Given as goal

-- whether one of the tasks that are left is inside of the object
abbrev pub invariant-loop-frames : goal.invariant-loop-frames
invariant-loop-frames g l =
    list_any (are_in (setting_of l.manager.managed) l.object) (drop l.frames-index l.self.rows)
    ≡ list_any (are_in (setting_of l.manager.managed) l.object) l.self.rows
