use Rattle.std.proofs.Common.{◌≡◌, ◌++◌, take, drop}
use Rattle.klp_types.specs.World.{newest_naming, installed_before}
use Rattle.klp_world.proofs.world.newest_before.Given as goal

-- the patches so far are before this one, and the newest of them that names the state is known
abbrev pub invariant-loop-installed : goal.invariant-loop-installed
invariant-loop-installed l = record {
  newest : l.newest ≡ newest_naming l.id (take l.installed-index l.patches);
  before : installed_before l.patch l.patches ≡ take l.installed-index l.patches ++ installed_before l.patch (drop l.installed-index l.patches);
}
