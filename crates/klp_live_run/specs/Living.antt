-- Running the steps of two tasks over a catalog's text.
use Rattle.std.specs.Prelude.{◌≡◌, ℕ, List, Option, Result, Ok, Err}
use Rattle.std.specs.Str.Lines.{lines}
use Rattle.klp_catalog_text.specs.Plan.{Plan}
use Rattle.klp_catalog_text.specs.Text.{plan_of, IsFaultOf}
use Rattle.klp_core.specs.Journaled.{Journaled}
use Rattle.klp_boot.specs.declared.fault.Fault.{Fault}
use Rattle.klp_boot.specs.declared.fault.Fault.TheVariants.{Text, Serve}
use Rattle.klp_boot.specs.Booted.{IsBootedOver, IsBootFault}
use Rattle.klp_live.specs.declared.opening.StartCause.{StartCause}
use Rattle.klp_live.specs.declared.opening.StartCause.TheVariants.{NoMemory as NoneForStart, NoPlace as NoneAtTable}
use Rattle.klp_live_bodies.specs.declared.step.Step.{Step}
use Rattle.klp_live_run.specs.declared.race.Done.{Done}
use Rattle.klp_live_run.specs.declared.fault.ReadFault.{ReadFault}
use Rattle.klp_live_run.specs.declared.fault.ReadFault.TheVariants.{NoMemory as NoneForSteps, Steps as OfLine}
use Rattle.klp_live_run.specs.declared.fault.LiveFault.{LiveFault}
use Rattle.klp_live_run.specs.declared.fault.LiveFault.TheVariants.{Program, Steps, NoMemory, NoPlace}
use Rattle.klp_live_run.specs.Steps.{AreSteps, IsFirstFault}
use Rattle.klp_live_run.specs.Racing.{IsPrepared, HaveRunBoth}
use Rattle.klp_live_run.specs.Shown.{IsShownOn}

-- Tasks 1 and 2 began on the booted machine. Each did all its steps of the text, with these outcomes. All accepted
-- events were taken back, and what is shown of the run was appended to the output.
pub record HasDone (booted : Journaled) (text : List ℕ) (before after : Option (List ℕ)) (done : Done) : Type 0 where
  pub first : List Step
  pub second : List Step
  pub steps : AreSteps booted (lines text) first second
  pub prepared : Journaled
  pub came : IsPrepared booted prepared
  pub left : Journaled
  pub run_and_rewind : HaveRunBoth prepared left first second done
  pub shown : IsShownOn left done before after

-- why steps that were read aren't all done and shown: no memory, no place for a reader, or a failed write
abbrev pub IsRunFault : LiveFault → Type 0
IsRunFault (Program (Serve fault)) = Unit {0}
IsRunFault (Program fault) = ⊥
IsRunFault (Steps fault) = ⊥
IsRunFault NoMemory = Unit {0}
IsRunFault NoPlace = Unit {0}

-- the fault of a start that failed
abbrev pub start_fault : StartCause → LiveFault
start_fault NoneForStart = NoMemory
start_fault NoneAtTable = NoPlace

-- the fault of steps that couldn't be read
abbrev pub read_fault : ReadFault → LiveFault
read_fault NoneForSteps = NoMemory
read_fault (OfLine fault) = Steps fault

-- what running the steps over a manager comes to
abbrev pub LivesBy : Journaled → List ℕ → Option (List ℕ) → Option (List ℕ) → Result Done LiveFault → Type 0
LivesBy booted text before after (Ok done) = HasDone booted text before after done
LivesBy booted text before after (Err (Steps fault)) = IsFirstFault booted (lines text) fault.line fault.kind
LivesBy booted text before after (Err fault) = IsRunFault fault

-- what running the steps over a plan comes to, from which a manager is booted, or can't be
abbrev pub LivesPlan : Plan → List ℕ → Option (List ℕ) → Option (List ℕ) → Result Done LiveFault → Type 0
LivesPlan plan text before after (Ok done) = (booted : Journaled) × IsBootedOver plan booted × HasDone booted text before after done
LivesPlan plan text before after (Err (Steps fault)) = (booted : Journaled) × IsBootedOver plan booted × IsFirstFault booted (lines text) fault.line fault.kind
LivesPlan plan text before after (Err (Program (Serve fault))) = Unit {0}
LivesPlan plan text before after (Err (Program fault)) = IsBootFault plan fault
LivesPlan plan text before after (Err fault) = Unit {0}

-- what running the steps over a catalog's text comes to
abbrev pub Lives : List ℕ → List ℕ → Option (List ℕ) → Option (List ℕ) → Result Done LiveFault → Type 0
Lives catalog text before after (Err (Program (Text fault))) = IsFaultOf catalog fault.line fault.kind
Lives catalog text before after (Err NoMemory) = Unit {0}
Lives catalog text before after result = (plan : Plan) × (plan_of catalog ≡ Ok plan) × LivesPlan plan text before after result

-- the exit status: it is 0 only if all steps are done, all events taken back, and what is shown written
abbrev pub status_of : Result Done LiveFault → ℕ
status_of (Ok done) = 0
status_of (Err fault) = 1

-- the program's result, and the exit status that goes with it
pub record Exits (catalog text : List ℕ) (before after : Option (List ℕ)) (status : ℕ) : Type 0 where
  pub result : Result Done LiveFault
  pub lives : Lives catalog text before after result
  pub status_is : status ≡ status_of result
