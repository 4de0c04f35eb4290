-- Adding one more step.
use Rattle.std.specs.Prelude.{◌≡◌, ◌<◌, ℕ, List, [], ◌∷◌, ◌++◌, length}
use Rattle.klp_live_bodies.specs.declared.step.Step.{Step}
use Rattle.klp_live_run.specs.declared.step_lines.TheConstants.{MAX_STEPS}
use Rattle.klp_live_run.specs.declared.step_lines.Half.{Half}
use Rattle.klp_live_run.specs.declared.step_lines.Half.TheVariants.{First, Second}
use Rattle.klp_live_run.specs.declared.fault.ReadFault.{ReadFault}
use Rattle.klp_live_run.specs.declared.fault.ReadFault.TheVariants.{NoMemory, Steps}
use Rattle.klp_live_run.specs.declared.fault.StepsFaultKind.TheVariants.{TooMany}
use Rattle.klp_live_run.specs.Steps.{count_of}

-- the step is the last one in its task's list
abbrev pub IsAdded : Half → Step → List Step → List Step → List Step → List Step → Type 0
IsAdded First step first second first' second' = (first' ≡ first ++ step ∷ []) × (second' ≡ second) × (length first < MAX_STEPS)
IsAdded Second step first second first' second' = (first' ≡ first) × (second' ≡ second ++ step ∷ []) × (length second < MAX_STEPS)

-- the task has as many steps as it may have, or memory ran out
abbrev pub IsFull : ℕ → ℕ → ReadFault → Type 0
IsFull count number NoMemory = Unit {0}
IsFull count number (Steps fault) = (fault.line ≡ number) × (fault.kind ≡ TooMany) × (count ≡ MAX_STEPS)
