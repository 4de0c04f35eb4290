-- What kinds of findings are added about a patch alone.
use Rattle.std.specs.Prelude.{◌≡◌, ℕ}
use Rattle.klp_lint_findings.specs.declared.finding.Finding.{Finding}
use Rattle.klp_lint_findings.specs.declared.finding.Finding.TheVariants.{Trace, Part}
use Rattle.klp_lint_findings.specs.declared.finding.PartFinding.{PartFinding}
use Rattle.klp_lint_findings.specs.declared.finding.TraceFinding.TheVariants.{NotUnderstood, MaybeCumulative}
use Rattle.klp_lint_findings.specs.declared.linted.Linted.{Linted}
use Rattle.klp_lint_findings.specs.declared.marks.Mark.{Mark}
use Rattle.klp_lint_findings.specs.declared.marks.MarkWord.{MarkWord}
use Rattle.klp_lint_findings.specs.declared.marks.MarkWord.TheVariants.{Unknown}
use Rattle.klp_lint_findings.specs.Marking.{IsMarked}

-- the finding is about a part of the patch
abbrev pub IsPartOf : ℕ → Finding → Type 0
IsPartOf patch finding = (part : PartFinding) × (finding ≡ Part patch part)

-- the finding says that a mark of the catalog calls a callback for this target unknown
abbrev pub IsNotUnderstood : Linted → ℕ → ℕ → Finding → Type 0
IsNotUnderstood linted patch place finding =
    (mark : Mark) × (finding ≡ Trace patch (NotUnderstood place mark)) × IsMarked linted.marks.now Unknown mark

-- the finding says that a mark of the catalog with this word leaves open whether the patch is cumulative
abbrev pub IsMaybeCumulative : Linted → ℕ → MarkWord → Finding → Type 0
IsMaybeCumulative linted patch word finding =
    (mark : Mark) × (finding ≡ Trace patch (MaybeCumulative mark)) × IsMarked linted.marks.now word mark
