use Rattle.std.proofs.Common.{◌≡◌, false, take}
use Rattle.std.specs.List.{list_any}
use Rattle.klp_tasks.specs.Members.{has}
use Rattle.klp_tasks.proofs.version_set.VersionSet.holds_originals.Given as goal

abbrev pub invariant-loop-frame : goal.invariant-loop-frame
invariant-loop-frame l = l.others ≡ false → l.held ≡ list_any (has (record { originals = l.self.originals; functions = l.self.functions })) (take l.frame-index l.frames)
