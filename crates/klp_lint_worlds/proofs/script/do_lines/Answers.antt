use Rattle.klp_lint_findings.proofs.SayLemmas.{adds_still, adds_on}
use Rattle.klp_lint_worlds.proofs.ScriptLemmas.{none_so_far, one_more}
use Rattle.klp_lint_worlds.proofs.script.do_lines.Goals as goal

pub loop-line-init : goal.loop-line-init
loop-line-init g c = record {
  so_far = none_so_far c.args.manager.now c.args.script.now c.args.found.now;
  adds = adds_still c.args.found.now;
}

pub loop-line-preserved : goal.loop-line-preserved
loop-line-preserved g c = record {
  so_far = one_more c.args.manager.now c.loop-line.manager c.find_line.new.manager c.args.script.now c.loop-line.rest.now c.in-Some.line.now
      c.in-Some.behind.now c.loop-line.found c.find_line.new.found c.loop-line.invariant.so_far c.in-Some.ensures.cut
      c.in_ok-find_line.ensures.reported c.in_ok-find_line.ensures.adds.grows;
  adds = adds_on c.loop-line.invariant.adds c.in_ok-find_line.ensures.adds;
}
