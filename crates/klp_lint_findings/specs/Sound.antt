-- Why the status 0 can be trusted: what is found gets into the list, and nothing that decides leaves it.
use Rattle.std.specs.Prelude.{◌≡◌, ℕ, ◌<◌, ◌⊎◌, Bool, true, List}
use Rattle.std.specs.List.{list_any}
use Rattle.klp_types.specs.Setting.{Setting}
use Rattle.klp_model.specs.State.{State, is_installed}
use Rattle.klp_model.specs.Company.{IsFairStart}
use Rattle.klp_lint.specs.Premises.{ArePatchesOf}
use Rattle.klp_lint_findings.specs.declared.findings.Said.{Said}
use Rattle.klp_lint_findings.specs.declared.findings.Findings.{Findings}
use Rattle.klp_lint_findings.specs.Deciding.{decides, is_clean}

-- some finding of the list makes the status 3
abbrev pub one_decides : List Said → Bool
one_decides said = list_any (λ (s : Said). decides s.finding) said

-- The list goes on about the same catalog, in the same world, and keeps what makes the status 3.
pub record Grows (before after : Findings) : Type 0 where
  pub linted : after.linted ≡ before.linted
  pub world : after.world ≡ before.world
  pub kept : one_decides before.said.items ≡ true → one_decides after.said.items ≡ true

-- The patch leaves no trace if it is enabled now and withdrawn later, or it is installed, and so isn't asked about.
abbrev pub IsRight : Setting → State → ℕ → Type 0
IsRight setting state patch = IsFairStart setting patch state ⊎ (is_installed state patch ≡ true)

-- If the list makes the status 0, then the patch of the catalog is right in this state.
pub record Vouches (setting : Setting) (state : State) (patch : ℕ) (found : Findings) : Type 0 where
  pub right : ArePatchesOf setting found.linted.patches.now
      → is_clean found.said.items found.linted.marks.now ≡ true → IsRight setting state patch

-- The list vouches for the patches with the numbers below the count.
abbrev pub VouchesBelow : Setting → State → ℕ → Findings → Type 0
VouchesBelow setting state count found = (patch : ℕ) → patch < count → Vouches setting state patch found
