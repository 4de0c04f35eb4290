-- What the steps come to over a manager, and over a plan.
use Rattle.std.proofs.Common.{ℕ, List, Option, Result, Ok, Err, IfOk, IfErr}
use Rattle.std.specs.Str.Lines.{lines}
use Rattle.klp_live_bodies.specs.declared.step.Step.{Step}
use Rattle.klp_catalog_text.specs.Plan.{Plan}
use Rattle.klp_core.specs.Journaled.{Journaled}
use Rattle.klp_boot.specs.declared.fault.Fault.TheVariants.{CannotRead, NoMemory as NoneForBoot, Text, Image, Assemble, Boot, Serve, Trace}
use Rattle.klp_boot.specs.Booted.{IsBootedOver}
use Rattle.klp_live_run.specs.declared.race.Done.{Done}
use Rattle.klp_live_run.specs.declared.fault.LiveFault.{LiveFault}
use Rattle.klp_live_run.specs.declared.fault.LiveFault.TheVariants.{Program, Steps, NoMemory, NoPlace}
use Rattle.klp_live_run.specs.Steps.{AreSteps}
use Rattle.klp_live_run.specs.Racing.{IsPrepared, HaveRunBoth}
use Rattle.klp_live_run.specs.Shown.{IsShownOn}
use Rattle.klp_live_run.specs.Living.{IsRunFault, LivesBy, LivesPlan}

-- what comes of the steps that were read, once both tasks are there
pub lives_by : (booted prepared : Journaled) (text : List ℕ) (first second : List Step) (before after : Option (List ℕ)) (result : Result Done LiveFault)
    → AreSteps booted (lines text) first second → IsPrepared booted prepared
    → IfOk result (λ (done : Done). (left : Journaled) × HaveRunBoth prepared left first second done × IsShownOn left done before after) → IfErr result IsRunFault
    → LivesBy booted text before after result
lives_by booted prepared text first second before after (Ok done) steps came ran fault =
    record { first = first; second = second; steps = steps; prepared = prepared; came = came; left = ran.0; run_and_rewind = ran.1; shown = ran.2 }
lives_by booted prepared text first second before after (Err (Program cause)) steps came ran fault = fault
lives_by booted prepared text first second before after (Err (Steps cause)) steps came ran fault = absurd fault
lives_by booted prepared text first second before after (Err NoMemory) steps came ran fault = tt
lives_by booted prepared text first second before after (Err NoPlace) steps came ran fault = tt

-- what comes of a booted manager comes of its plan
pub lives_plan : (plan : Plan) (booted : Journaled) (text : List ℕ) (before after : Option (List ℕ)) (result : Result Done LiveFault)
    → IsBootedOver plan booted → LivesBy booted text before after result → LivesPlan plan text before after result
lives_plan plan booted text before after (Ok done) is by = (booted, is, by)
lives_plan plan booted text before after (Err (Steps fault)) is by = (booted, is, by)
lives_plan plan booted text before after (Err (Program (Serve fault))) is by = tt
lives_plan plan booted text before after (Err (Program CannotRead)) is by = absurd by
lives_plan plan booted text before after (Err (Program NoneForBoot)) is by = absurd by
lives_plan plan booted text before after (Err (Program (Text fault))) is by = absurd by
lives_plan plan booted text before after (Err (Program (Image fault))) is by = absurd by
lives_plan plan booted text before after (Err (Program (Assemble fault))) is by = absurd by
lives_plan plan booted text before after (Err (Program (Boot fault))) is by = absurd by
lives_plan plan booted text before after (Err (Program (Trace fault))) is by = absurd by
lives_plan plan booted text before after (Err NoMemory) is by = tt
lives_plan plan booted text before after (Err NoPlace) is by = tt
