use Rattle.std.proofs.Common.{◌≡◌, take, drop, ◌++◌}
use Rattle.klp_catalog.specs.States.{installed_before}
use Rattle.klp_patch_events.proofs.replaced.older_than.Given as goal

-- none of those so far is the patch
abbrev pub invariant-loop-place : goal.invariant-loop-place
invariant-loop-place l = installed_before l.patch l.installed ≡ take l.place l.installed ++ installed_before l.patch (drop l.place l.installed)
