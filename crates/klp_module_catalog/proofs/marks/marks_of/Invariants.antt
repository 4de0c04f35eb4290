use Rattle.std.proofs.Common.{◌≡◌, ◌++◌, length}
use Rattle.std.specs.Str.Lines.{lines}
use Rattle.klp_module_catalog.specs.Marks.{marks_of, without}
use Rattle.klp_module_catalog.proofs.MarkLemmas.{pending}
use Rattle.klp_module_catalog.proofs.marks.marks_of.Given as goal

-- the marks so far and those that the lines that are left have are all marks
abbrev pub invariant-loop-line : goal.invariant-loop-line
invariant-loop-line l = l.marks.items ++ pending l.kind l.is_wanted (without l.other l.rest) ≡ marks_of l.kind (without l.other (lines l.fn.text))

abbrev pub decreases-loop-line : goal.decreases-loop-line
decreases-loop-line l = length l.rest
