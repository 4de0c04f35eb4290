use Rattle.klp_lint_findings.specs.Marking.{has_unknown}
use Rattle.klp_lint_findings.proofs.MarkLemmas.{line_done, all_done}
use Rattle.klp_lint_findings.proofs.marks.read_marks.Goals as goal

pub loop-line-preserved : goal.loop-line-preserved
loop-line-preserved c =
    line_done c.loop-line.marks.items c.add_mark.new.marks.items c.in-Some.line.now c.loop-line.rest c.next.new.self
    (has_unknown c.args.text.now) c.in_ok-add_mark.ensures c.in-Some.ensures c.loop-line.invariant

pub returns : goal.returns
returns c =
    all_done c.loop-line.marks.items c.loop-line.rest (has_unknown c.args.text.now) c.in_default.ensures c.loop-line.invariant
