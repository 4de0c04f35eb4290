-- What is lost of a patch that a cumulative one takes out.
use Rattle.std.specs.Prelude.{◌≡◌, ◌⊎◌, ℕ, Option}
use Rattle.klp_types.specs.World.{state_value}
use Rattle.klp_core.specs.Journaled.{Journaled}
use Rattle.klp_lint_findings.specs.Claims.{loading}
use Rattle.klp_lint_findings.specs.Standing.{Standing, LeadsTo}

-- the system state of the patch has this value now, or once the patch is loaded
abbrev pub IsValueLost : Standing → ℕ → ℕ → Option ℕ → Type 0
IsValueLost here patch id value =
    (value ≡ state_value here.state.world patch id)
    ⊎ ((last : Journaled) × LeadsTo here (loading patch) last × (value ≡ state_value last.managed.state.world patch id))
