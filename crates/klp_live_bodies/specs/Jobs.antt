-- A job as contracts see it.
use Rattle.std.specs.Prelude.{◌≡◌, ℕ, Bool, List, Option, None, Result, IsSomeAnd}
use Rattle.klp_types.specs.Setting.{Setting}
use Rattle.klp_model.specs.State.{State}
use Rattle.klp_live.specs.Passing.{Passing}
use Rattle.klp_live_bodies.specs.declared.step.Step.{Step}
use Rattle.klp_live_bodies.specs.declared.step.Outcome.{Outcome}
use Rattle.klp_live_bodies.specs.declared.body.TaskBody.{TaskBody}
use Rattle.klp_live_bodies.specs.declared.fault.BodyFault.{BodyFault}
use Rattle.klp_live.specs.declared.history.Start as Start
use Rattle.klp_live_bodies.specs.declared.gate.Gate as Gate
use Rattle.klp_live_bodies.specs.declared.job.Job.{Job}
use Rattle.klp_live_bodies.specs.Running.{Ends}

-- the body, until the job has run
abbrev pub body_of : {S G : Type 0} {s : Start.Ghosts S} {g : Gate.Ghosts G} → Job S G s g → Option (TaskBody S G)
body_of job = job.body

-- the steps of a job
abbrev pub steps_of : {S G : Type 0} {s : Start.Ghosts S} {g : Gate.Ghosts G} → Job S G s g → List Step
steps_of job = job.steps.items

-- how the body ended, once the job has run
abbrev pub ended_of : {S G : Type 0} {s : Start.Ghosts S} {g : Gate.Ghosts G} → Job S G s g → Option (Result Passing (BodyFault S))
ended_of job = job.ended

-- the outcomes of a job's steps, none before it has run
abbrev pub outcomes_of : {S G : Type 0} {s : Start.Ghosts S} {g : Gate.Ghosts G} → Job S G s g → List Outcome
outcomes_of job = job.outcomes.items

-- the job had this body, which has run, and its steps have the outcomes that are here now
pub record IsRun {S G : Type 0} {s : Start.Ghosts S} {g : Gate.Ghosts G} (setting : Setting) (base : State) (answers : G → ℕ → ℕ → Bool → Type 0) (body : TaskBody S G) (before after : Job S G s g) : Type 0 where
  pub steps : steps_of after ≡ steps_of before
  pub over : body_of after ≡ None
  pub ends : IsSomeAnd (ended_of after) (λ ended. Ends setting base (answers body.gate) body.pass (steps_of before) (outcomes_of after) ended)
