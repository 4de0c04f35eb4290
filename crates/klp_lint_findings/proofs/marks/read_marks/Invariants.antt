-- What the marks so far and the lines that are left say is what the text says.
use Rattle.std.proofs.Common.{◌≡◌, ◌||◌, length}
use Rattle.std.specs.List.{list_any}
use Rattle.klp_lint_findings.specs.Deciding.{is_unknown}
use Rattle.klp_lint_findings.specs.Marking.{is_unknown_line, has_unknown}
use Rattle.klp_lint_findings.proofs.marks.read_marks.Given as goal

abbrev pub invariant-loop-line : goal.invariant-loop-line
invariant-loop-line l = (list_any is_unknown l.marks.items || list_any is_unknown_line l.rest) ≡ has_unknown l.fn.text

abbrev pub decreases-loop-line : goal.decreases-loop-line
decreases-loop-line l = length l.rest
