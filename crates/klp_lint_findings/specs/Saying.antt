-- What a list of findings says, and of which world.
use Rattle.std.specs.Prelude.{◌≡◌, ◌⊎◌, Bool, true, not, List, Contains}
use Rattle.klp_lint_findings.specs.declared.finding.Finding.{Finding}
use Rattle.klp_lint_findings.specs.declared.findings.Findings.{Findings}
use Rattle.klp_lint_findings.specs.declared.findings.Said.{Said}
use Rattle.klp_lint_findings.specs.declared.findings.World.{World}
use Rattle.klp_lint_findings.specs.declared.findings.World.TheVariants.{Each, WithoutModules, WithModules}
use Rattle.klp_lint_findings.specs.Sound.{Grows}

-- whether what holds here is said of the world with all modules, if `full`, or else of the one without modules
abbrev pub is_said_of : World → Bool → Bool
is_said_of Each full = true
is_said_of WithoutModules full = not full
is_said_of WithModules full = full

-- the list says the finding of this world
unfoldable pub Says : List Said → Bool → Finding → Type 0
Says said full finding = (s : Said) × Contains said s × (s.finding ≡ finding) × (is_said_of s.world full ≡ true)

-- The list goes on, and still says all that it said. What it says more, it says of the world that is judged now, and each such
-- finding has the property.
pub record Adds (P : Finding → Type 0) (before after : Findings) : Type 0 where
  pub grows : Grows before after
  pub kept : (full : Bool) (finding : Finding) → Says before.said.items full finding → Says after.said.items full finding
  pub more : (full : Bool) (finding : Finding) → Says after.said.items full finding
      → Says before.said.items full finding ⊎ ((is_said_of before.world full ≡ true) × P finding)
