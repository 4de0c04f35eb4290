-- Which patches a list of findings says something of.
use Rattle.std.specs.Prelude.{◌≡◌, ◌⊎◌, ℕ, Bool, true, false}
use Rattle.klp_types.specs.Setting.{Setting}
use Rattle.klp_model.specs.State.{State, is_installed}
use Rattle.klp_model.specs.Company.{IsFairStart}
use Rattle.klp_lint.specs.Premises.{ArePatchesOf}
use Rattle.klp_lint_findings.specs.declared.finding.Finding.TheVariants.{Trace}
use Rattle.klp_lint_findings.specs.declared.finding.TraceFinding.{TraceFinding}
use Rattle.klp_lint_findings.specs.declared.finding.TraceFinding.TheVariants.{Moving, NotUndone, NotApart}
use Rattle.klp_lint_findings.specs.declared.findings.Findings.{Findings}
use Rattle.klp_lint_findings.specs.Saying.{Says}

-- the finding says that a premise of the round trip fails: the patch may leave a trace, or another one is in transition
abbrev pub is_fault : TraceFinding → Bool
is_fault Moving = true
is_fault (NotUndone place pair key found left) = true
is_fault (NotApart first second key) = true
is_fault finding = false

-- the list says of this world that a premise of the round trip fails for the patch
abbrev pub SaysFault : Findings → Bool → ℕ → Type 0
SaysFault found full patch =
    (finding : TraceFinding) × Says found.said.items full (Trace patch finding) × (is_fault finding ≡ true)

-- the patch leaves no trace if it is enabled now and withdrawn later, or it is installed, or the list says that a premise fails
abbrev pub IsFairOrListed : Setting → State → ℕ → Bool → Findings → Type 0
IsFairOrListed setting state patch full found =
    IsFairStart setting patch state ⊎ ((is_installed state patch ≡ true) ⊎ SaysFault found full patch)

-- The same of a manager that may be booted over the catalog.
pub record Lists (setting : Setting) (state : State) (patch : ℕ) (full : Bool) (found : Findings) : Type 0 where
  pub listed : ArePatchesOf setting found.linted.patches.now → IsFairOrListed setting state patch full found
