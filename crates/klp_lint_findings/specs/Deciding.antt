-- When the status is 0.
use Rattle.std.specs.Prelude.{Bool, true, false, not, ◌&&◌, List}
use Rattle.std.specs.List.{list_any}
use Rattle.klp_lint_findings.specs.declared.finding.TraceFinding.{TraceFinding}
use Rattle.klp_lint_findings.specs.declared.finding.TraceFinding.TheVariants as trace
use Rattle.klp_lint_findings.specs.declared.finding.LoadFinding.{LoadFinding}
use Rattle.klp_lint_findings.specs.declared.finding.LoadFinding.TheVariants as load
use Rattle.klp_lint_findings.specs.declared.finding.ReplaceFinding.{ReplaceFinding}
use Rattle.klp_lint_findings.specs.declared.finding.ReplaceFinding.TheVariants as replace
use Rattle.klp_lint_findings.specs.declared.finding.Finding.{Finding}
use Rattle.klp_lint_findings.specs.declared.finding.Finding.TheVariants.{Line, Trace, Part, Load, Replace, Count}
use Rattle.klp_lint_findings.specs.declared.findings.Said.{Said}
use Rattle.klp_lint_findings.specs.declared.marks.Mark.{Mark}
use Rattle.klp_lint_findings.specs.declared.marks.MarkWord.{MarkWord}
use Rattle.klp_lint_findings.specs.declared.marks.MarkWord.TheVariants.{Unknown}

-- a patch that leaves no trace is right, and one that is installed isn't asked about; all else may be wrong, or isn't judged
abbrev pub trace_decides : TraceFinding → Bool
trace_decides (trace.Clean is_everywhere is_partial) = false
trace_decides trace.Installed = false
trace_decides finding = true

-- a patch has to be loaded alone, and no function may be hidden; it needn't be loaded over each other one, and may wait
abbrev pub load_decides : LoadFinding → Bool
load_decides (load.NotStarted why) = true
load_decides (load.NotOver below why) = false
load_decides (load.Stays why) = false
load_decides (load.SameFunctions others place functions) = true

-- a cumulative patch is there to take patches out and their values over; it loses nothing of theirs
abbrev pub replace_decides : ReplaceFinding → Bool
replace_decides (replace.TakesOut gone) = false
replace_decides (replace.TakesOver other id) = false
replace_decides finding = true

-- a line of the script is done, and each part of a patch is right; counts only describe
abbrev pub decides : Finding → Bool
decides (Line line) = true
decides (Trace patch finding) = trace_decides finding
decides (Part patch finding) = true
decides (Load patch finding) = load_decides finding
decides (Replace patch finding) = replace_decides finding
decides (Count finding) = false

abbrev pub is_unknown_word : MarkWord → Bool
is_unknown_word Unknown = true
is_unknown_word word = false

abbrev pub is_unknown : Mark → Bool
is_unknown mark = is_unknown_word mark.word

-- The status is 0: no finding of the list decides, and the catalog marks nothing as unknown.
abbrev pub is_clean : List Said → List Mark → Bool
is_clean said marks = not (list_any (λ (s : Said). decides s.finding) said) && not (list_any is_unknown marks)
