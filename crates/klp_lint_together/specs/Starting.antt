-- What becomes of a patch that is loaded.
use Rattle.std.specs.Prelude.{◌≡◌, ℕ, false, ◌⊎◌, true, Result, Ok, Err}
use Rattle.klp_types.specs.Setting.{Setting}
use Rattle.klp_model.specs.declared.event.Event.TheVariants.{Enable}
use Rattle.klp_model.specs.declared.event.Reply.{Reply}
use Rattle.klp_model.specs.declared.event.Reply.TheVariants as reply
use Rattle.klp_model.specs.declared.event.Refusal.{Refusal}
use Rattle.klp_model.specs.declared.event.Refusal.TheVariants as refusal
use Rattle.klp_model.specs.Run.{answer}
use Rattle.klp_model.specs.State.{State, is_installed}
use Rattle.klp_lint_findings.specs.declared.findings.Findings.{Findings}
use Rattle.klp_lint_findings.specs.Sound.{one_decides}
use Rattle.klp_lint_together.specs.declared.loading.LoadOutcome.{LoadOutcome}
use Rattle.klp_lint_together.specs.declared.loading.LoadOutcome.TheVariants.{Started, Failed, Exists, Incompatible, NoSymbol, Full, Pinned, Refused}

-- the outcome of loading a patch, by the answer
abbrev pub outcome_of : Result Reply Refusal → LoadOutcome
outcome_of (Ok reply.Started) = Started
outcome_of (Ok (reply.PreFailed patch object status)) = Failed object status
outcome_of (Ok other) = Refused
outcome_of (Err refusal.Incompatible) = Incompatible
outcome_of (Err refusal.NoSymbol) = NoSymbol
outcome_of (Err refusal.Full) = Full
outcome_of (Err refusal.Pinned) = Pinned
outcome_of (Err other) = Refused

-- What an outcome tells of the answer to an `Enable`. Where marks say that a call fails, it tells nothing, since the rules know no
-- such call.
abbrev pub Tells : Result Reply Refusal → LoadOutcome → Type 0
Tells answer Started = answer ≡ Ok reply.Started
Tells answer (Failed object status) = (patch : ℕ) × (answer ≡ Ok (reply.PreFailed patch object status))
Tells answer (Exists object key) = Unit {0}
Tells answer Incompatible = answer ≡ Err refusal.Incompatible
Tells answer NoSymbol = answer ≡ Err refusal.NoSymbol
Tells answer Full = answer ≡ Err refusal.Full
Tells answer Pinned = answer ≡ Err refusal.Pinned
Tells answer Refused = answer ≡ Ok reply.Started → ⊥

-- the patch can be loaded now: its transition starts
abbrev pub CanStart : Setting → State → ℕ → Type 0
CanStart setting state patch = answer setting state (Enable patch) ≡ Ok reply.Started

-- If no finding of the list makes the status 3, the patch can be loaded now, or it is installed.
pub record StartsUnlessReported (setting : Setting) (state : State) (patch : ℕ) (found : Findings) : Type 0 where
  pub starts : one_decides found.said.items ≡ false → CanStart setting state patch ⊎ (is_installed state patch ≡ true)
