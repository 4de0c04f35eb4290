use Rattle.std.proofs.Common.{◌≡◌, ◌++◌, drop, map}
use Rattle.std.specs.List.{flat_map}
use Rattle.klp_timeline.specs.Facts.{leave_of}
use Rattle.klp_timeline.specs.Sentences.{did}
use Rattle.klp_timeline.proofs.facts.add_leaving.Given as goal

-- the patches so far, and those that are left
abbrev pub invariant-loop-patch : goal.invariant-loop-patch
invariant-loop-patch l = l.sentences.items ++ map (did l.fn.line) (flat_map (leave_of l.fn.moved l.fn.installed) (drop l.patch-index l.fn.before))
    ≡ l.initial.sentences.items ++ map (did l.fn.line) (flat_map (leave_of l.fn.moved l.fn.installed) l.fn.before)
