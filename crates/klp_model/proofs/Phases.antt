-- The phases of a patch in a fair company.
use Rattle.std.proofs.Common.{◌≡◌, ℕ, Bool, true, List, [], ◌∷◌, Some, None}
use Rattle.std.specs.Prelude.{slice_get}
use Rattle.std.specs.List.{find}
use Rattle.klp_types.specs.declared.shadow.ShadowKey.{ShadowKey}
use Rattle.klp_types.specs.declared.callback.Which.{Which}
use Rattle.klp_types.specs.declared.callback.Which.TheVariants.{Pre, Post, PreUn, PostUn}
use Rattle.klp_types.specs.Setting.{Setting, PatchObject}
use Rattle.klp_types.specs.World.{World, variable}
use Rattle.klp_model.specs.State.{State}
use Rattle.klp_types.specs.Callbacks.{Call, refuses}
use Rattle.klp_model.specs.Callbacks.{loaded_objects}
use Rattle.klp_model.specs.Rounds.{kinds_for, those_there}
use Rattle.klp_model.specs.Company.{taking_part, company_keys}
use Rattle.klp_model.proofs.WorldLemmas.{IsLast}
use Rattle.klp_model.proofs.ObjectLemmas.{objects_at}

-- what no event of the company changes
pub record IsSteady (start state : State) : Type 0 where
  pub loaded : state.loaded ≡ start.loaded
  pub pinned : state.pinned ≡ start.pinned

-- the patch isn't installed
pub record IsGone (setting : Setting) (patch : ℕ) (start : State) (base : World) (state : State) : Type 0 where
  pub steady : IsSteady start state
  pub moving : state.moving ≡ None
  pub installed : state.world.installed ≡ start.world.installed
  pub variables : (key : ShadowKey) → variable state.world key ≡ variable base key

-- the patch moves, to either target: pre-patch has run, and what ran since is undone
pub record IsOnTheMove (setting : Setting) (patch : ℕ) (start : State) (base : World) (state : State) (target : Bool) : Type 0 where
  pub steady : IsSteady start state
  pub none_refuses : find refuses (loaded_objects setting start patch) ≡ None
  pub moving : state.moving ≡ Some (record { patch = patch; target = target })
  pub last : IsLast patch start.world.installed state.world
  pub variables : (key : ShadowKey) → variable state.world key ≡ objects_at key (variable base key) Pre (taking_part setting start patch)

-- the patch is installed and doesn't move: pre-patch and post-patch have run
pub record IsSettled (setting : Setting) (patch : ℕ) (start : State) (base : World) (state : State) : Type 0 where
  pub steady : IsSteady start state
  pub none_refuses : find refuses (loaded_objects setting start patch) ≡ None
  pub moving : state.moving ≡ None
  pub last : IsLast patch start.world.installed state.world
  pub variables : (key : ShadowKey) → variable state.world key
      ≡ objects_at key (objects_at key (variable base key) Pre (taking_part setting start patch)) Post (taking_part setting start patch)

-- where a patch is
pub data Stage : Type 0 where
  Away Moving Settled : Stage

-- The base is the world of the start with the changes of the shadow events since.
abbrev pub PhaseAt : Setting → ℕ → State → World → Stage → State → Type 0
PhaseAt setting patch start base Away state = IsGone setting patch start base state
PhaseAt setting patch start base Moving state = (target : Bool) × IsOnTheMove setting patch start base state target
PhaseAt setting patch start base Settled state = IsSettled setting patch start base state

-- from stage to stage: what runs of each object that takes part, and how many enablings that is
pub data Advance : Stage → List Which → Stage → ℕ → Type 0 where
  stays : {stage : Stage} → Advance stage [] stage 0
  enables : Advance Away (Pre ∷ []) Moving 1
  fails : Advance Away (Pre ∷ PostUn ∷ []) Away 1
  settles : Advance Moving (Post ∷ []) Settled 0
  departs : Advance Moving (PostUn ∷ []) Away 0
  begins_to_leave : Advance Settled (PreUn ∷ []) Moving 0

-- of each of the objects these kinds ran, of those that are there
abbrev pub Ran : List (ℕ × PatchObject) → List Call → List Which → Type 0
Ran objects calls kinds = (number : ℕ) (object : ℕ × PatchObject) → slice_get objects number ≡ Some object → kinds_for object.0 calls ≡ those_there object kinds

-- one step on
pub record Onward (setting : Setting) (patch : ℕ) (start : State) (base : World) (stage : Stage) (calls : List Call) (enabled : ℕ) (next : State) : Type 0 where
  pub reached : Stage
  pub kinds : List Which
  pub phase : PhaseAt setting patch start base reached next
  pub advance : Advance stage kinds reached enabled
  pub ran : Ran (taking_part setting start patch) calls kinds

-- on the variables of the company the base is as the start
pub record IsBase (setting : Setting) (patch : ℕ) (start : State) (base : World) : Type 0 where
  pub same : (key : ShadowKey) → company_keys setting start patch key ≡ true → variable base key ≡ variable start.world key
