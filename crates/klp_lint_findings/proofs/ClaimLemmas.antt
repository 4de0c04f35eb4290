-- Findings whose claims are so are true.
use Rattle.std.proofs.Common.{◌≡◌, ℕ, Option, Some, Result, Ok, Err, subst}
use Rattle.std.specs.Prelude.{IfOk, IfSome}
use Rattle.klp_lint.specs.Premises.{ArePatchesOf}
use Rattle.klp_lint_findings.specs.declared.finding.CountFinding.{CountFinding}
use Rattle.klp_lint_findings.specs.declared.finding.Finding.{Finding}
use Rattle.klp_lint_findings.specs.declared.finding.Finding.TheVariants.{Line, Trace, Part, Load, Replace, Count}
use Rattle.klp_lint_findings.specs.declared.finding.LoadFinding.{LoadFinding}
use Rattle.klp_lint_findings.specs.declared.finding.PartFinding.{PartFinding}
use Rattle.klp_lint_findings.specs.declared.finding.ReplaceFinding.{ReplaceFinding}
use Rattle.klp_lint_findings.specs.declared.finding.RefusedLine.{RefusedLine}
use Rattle.klp_lint_findings.specs.declared.finding.TraceFinding.{TraceFinding}
use Rattle.klp_lint_findings.specs.declared.findings.Findings.{Findings}
use Rattle.klp_lint_findings.specs.declared.linted.Linted.{Linted}
use Rattle.klp_lint_findings.specs.Claims.{ClaimsTrace, ClaimsLoad, ClaimsReplace, IsTrue, AddsTrue}
use Rattle.klp_lint_findings.specs.Saying.{Adds}
use Rattle.klp_lint_findings.specs.Standing.{Standing}
use Rattle.klp_lint_findings.proofs.SayLemmas.{adds_on, adds_it, adds_as}

pub trace_true : (linted : Linted) (here : Standing) (patch : ℕ) (finding : TraceFinding)
    → (ArePatchesOf here.setting linted.patches.now → ClaimsTrace linted here patch finding) → IsTrue linted here (Trace patch finding)
unfolding IsTrue
trace_true linted here patch finding claims = claims

pub load_true : (linted : Linted) (here : Standing) (patch : ℕ) (finding : LoadFinding)
    → ClaimsLoad here patch finding → IsTrue linted here (Load patch finding)
unfolding IsTrue
load_true linted here patch finding claims = λ _. claims

pub part_true : (linted : Linted) (here : Standing) (patch : ℕ) (finding : PartFinding) → IsTrue linted here (Part patch finding)
unfolding IsTrue
part_true linted here patch finding = λ _. tt

pub replace_true : (linted : Linted) (here : Standing) (patch : ℕ) (finding : ReplaceFinding)
    → ClaimsReplace linted here patch finding → IsTrue linted here (Replace patch finding)
unfolding IsTrue
replace_true linted here patch finding claims = λ _. claims

pub line_true : (linted : Linted) (here : Standing) (line : RefusedLine) → IsTrue linted here (Line line)
unfolding IsTrue
line_true linted here line = λ _. tt

pub count_true : (linted : Linted) (here : Standing) (finding : CountFinding) → IsTrue linted here (Count finding)
unfolding IsTrue
count_true linted here finding = λ _. tt

-- the same of a call that may run out of memory
pub ok_adds_it : {E : Type 0} (P : Finding → Type 0) (one two : Findings) (result : Result Unit E) (finding : Finding) → P finding
    → IfOk result (λ _. Adds (λ other. other ≡ finding) one two) → IfOk result (λ _. Adds P one two)
ok_adds_it P one two (Ok done) finding claim adds = adds_it finding claim adds
ok_adds_it P one two (Err fault) finding claim adds = tt

-- a finding that has the property was added, if there was one
pub adds_some : {P : Finding → Type 0} {one two : Findings} (finding : Option Finding) → IfSome finding P
    → Adds (λ other. finding ≡ Some other) one two → Adds P one two
adds_some {P = P} finding claim adds = adds_as (λ other is. subst (λ (f : Option Finding). IfSome f P) is claim) adds

-- the same of calls that may run out of memory
pub ok_adds_some : {E : Type 0} (P : Finding → Type 0) (one two : Findings) (result : Result Unit E) (finding : Option Finding) → IfSome finding P
    → IfOk result (λ _. Adds (λ other. finding ≡ Some other) one two) → IfOk result (λ _. Adds P one two)
ok_adds_some P one two (Ok done) finding claim adds = adds_some {P = P} finding claim adds
ok_adds_some P one two (Err fault) finding claim adds = tt

pub ok_adds_as : {E : Type 0} (P Q : Finding → Type 0) (one two : Findings) (result : Result Unit E) → ((finding : Finding) → P finding → Q finding)
    → IfOk result (λ _. Adds P one two) → IfOk result (λ _. Adds Q one two)
ok_adds_as P Q one two (Ok done) claims adds = adds_as {P = P} {Q = Q} claims adds
ok_adds_as P Q one two (Err fault) claims adds = tt

-- one list goes on to another, and this one to a third
pub adds_true_on : (here : Standing) {one two three : Findings} → AddsTrue here one two → AddsTrue here two three → AddsTrue here one three
adds_true_on here {two = two} {three = three} first second =
    adds_on first (subst (λ (l : Linted). Adds (IsTrue l here) two three) first.grows.linted second)

-- the same manager
pub adds_true_at : {here there : Standing} {one two : Findings} → there ≡ here → AddsTrue there one two → AddsTrue here one two
adds_true_at {one = one} {two = two} same adds = subst (λ (s : Standing). AddsTrue s one two) same adds

-- a finding was added that is true of each manager
pub ok_adds_true : {E : Type 0} (one two : Findings) (result : Result Unit E) (finding : Finding) → ((here : Standing) → IsTrue one.linted here finding)
    → IfOk result (λ _. Adds (λ other. other ≡ finding) one two) → IfOk result (λ _. (here : Standing) → AddsTrue here one two)
ok_adds_true one two (Ok done) finding claim adds = λ here. adds_it finding (claim here) adds
ok_adds_true one two (Err fault) finding claim adds = tt
