-- The lines before the rest were done, and what was found so far is about them.
use Rattle.std.proofs.Common.{length}
use Rattle.klp_lint_findings.specs.Saying.{Adds}
use Rattle.klp_lint_worlds.specs.Worlds.{IsLine}
use Rattle.klp_lint_worlds.proofs.ScriptLemmas.{IsDoneSoFar}
use Rattle.klp_lint_worlds.proofs.script.do_lines.Given as goal

-- the ledger is that of its blank
abbrev pub ghosts-find_line : goal.ghosts-find_line
ghosts-find_line g a = record { name = a.writes.name; parts = a.writes.parts }

abbrev pub invariant-loop-line : goal.invariant-loop-line
invariant-loop-line g l = record {
  so_far : IsDoneSoFar l.fn.manager l.manager l.fn.script l.rest l.found;
  adds : Adds IsLine l.fn.found l.found;
}

abbrev pub decreases-loop-line : goal.decreases-loop-line
decreases-loop-line g l = length l.rest
