-- Two tasks doing their steps over a machine, and the machine after all is taken back.
use Rattle.std.specs.Prelude.{◌≡◌, ℕ, ◌+◌, Bool, true, List, [], ◌∷◌, length}
use mathlib.Core.List.{IsPrefix}
use Rattle.klp_types.specs.Setting.{Setting}
use Rattle.klp_model.specs.State.{State}
use Rattle.klp_model.specs.Legal.{History, IsLegal}
use Rattle.klp_model.specs.declared.event.Event.TheVariants.{NewTask}
use Rattle.klp_manager_state.specs.Managed.{setting_of}
use Rattle.klp_core.specs.Journaled.{Journaled, history_in}
use Rattle.klp_core.specs.Rewinding.{IsRewound}
use Rattle.klp_core.specs.Taking.{AreTaken}
use Rattle.klp_live.specs.Seats.{Knows}
use Rattle.klp_live_bodies.specs.declared.step.Step.{Step}
use Rattle.klp_live_bodies.specs.declared.step.Outcome.{Outcome}
use Rattle.klp_live_bodies.specs.Running.{IsFinished, receipts}
use Rattle.klp_live_run.specs.declared.race.Done.{Done}

-- tasks 1 and 2 have begun, and the state after that is the base
pub record IsPrepared (before after : Journaled) : Type 0 where
  pub counts : ℕ × ℕ
  pub with_tasks : Journaled
  pub taken : AreTaken before with_tasks (NewTask 1 ∷ NewTask 2 ∷ []) counts
  pub sealed : after ≡ record { managed = with_tasks.managed; base = with_tasks.managed.state; groups = [] }

-- a seat that knows no event, and had none accepted
abbrev pub knows_nothing : Knows
knows_nothing = record { list = []; accepted = 0 }

-- a gate that always lets a task in
abbrev pub lets_in : ℕ → ℕ → Bool → Type 0
lets_in task step is_let_in = is_let_in ≡ true

-- All steps of a task are done, each with its outcome. The task knew no event before them, and knows this after them.
abbrev pub HasEnded : Setting → State → ℕ → Knows → List Step → List Outcome → Type 0
HasEnded setting base task knows steps outcomes =
    IsFinished setting base lets_in (record { task = task; knows = knows_nothing }) (record { task = task; knows = knows }) steps outcomes

-- tasks 1 and 2 have both done their steps, and this is what they know
pub record HaveEnded (setting : Setting) (base : State) (first second : List Step) (done : Done) (known : List Knows) : Type 0 where
  pub of_first : Knows
  pub of_second : Knows
  pub known_is : known ≡ of_first ∷ of_second ∷ []
  pub first_ended : HasEnded setting base 1 of_first first done.first.items
  pub second_ended : HasEnded setting base 2 of_second second done.second.items

-- a task has done its steps, and what it knows then is a beginning of the history
pub record HasDoneAll (setting : Setting) (base : State) (task : ℕ) (list : History) (steps : List Step) (outcomes : List Outcome) : Type 0 where
  pub knows : Knows
  pub ended : HasEnded setting base task knows steps outcomes
  pub begins : IsPrefix knows.list list

-- Both tasks have done their steps over one history, which is that of the machine. It has as many events as both have
-- receipts.
pub record HaveRun (setting : Setting) (base : State) (finished : Journaled) (first second : List Step) (done : Done) : Type 0 where
  pub setting_is : setting_of finished.managed ≡ setting
  pub base_is : finished.base ≡ base
  pub legal : IsLegal setting base (history_in finished.groups)
  pub first_done : HasDoneAll setting base 1 (history_in finished.groups) first done.first.items
  pub second_done : HasDoneAll setting base 2 (history_in finished.groups) second done.second.items
  pub counted : receipts done.first.items + receipts done.second.items ≡ length (history_in finished.groups)

-- the machine is as it was when it was sealed: the same image and patches, and the same state, with text bytes and
-- stacks
pub record IsBack (before after : Journaled) : Type 0 where
  pub setting : setting_of after.managed ≡ setting_of before.managed
  pub state : after.managed.state ≡ before.base

-- both tasks ran over a machine, and then all accepted events were taken back
pub record HaveRunBoth (before after : Journaled) (first second : List Step) (done : Done) : Type 0 where
  pub finished : Journaled
  pub ran : HaveRun (setting_of before.managed) before.base finished first second done
  pub rewound : IsRewound finished after 0
  pub back : IsBack before after
