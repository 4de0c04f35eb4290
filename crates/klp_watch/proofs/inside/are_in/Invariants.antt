use Rattle.std.proofs.Common.{◌≡◌, drop}
use Rattle.klp_manager_state.specs.Managed.{setting_of}
use Rattle.klp_watch.specs.Inside.{are_in}
use Rattle.klp_watch.proofs.inside.are_in.Given as goal

-- whether one of those that are left lies in the object
abbrev pub invariant-loop-version : goal.invariant-loop-version
invariant-loop-version g l =
    are_in (setting_of l.manager.managed) l.object (drop l.version-index l.frames) ≡ are_in (setting_of l.manager.managed) l.object l.frames
