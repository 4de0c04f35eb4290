-- The worlds in which the patches of a catalog are judged.
use Rattle.std.specs.Prelude.{◌≡◌, ◌⊎◌, ℕ, zero, suc, ◌<◌, Bool, true, false, List, Option, Some, None}
use Rattle.std.specs.List.{list_any}
use Rattle.klp_types.specs.Setting.{Setting}
use Rattle.klp_model.specs.declared.event.Event.TheVariants.{Coming}
use Rattle.klp_model.specs.State.{State, is_installed}
use Rattle.klp_model.specs.Company.{IsFairStart}
use Rattle.klp_model.specs.Run.{next}
use Rattle.klp_manager_state.specs.Managed.{setting_of}
use Rattle.klp_core.specs.Journaled.{Journaled}
use Rattle.klp_console.specs.Answered.{Answer, IsAnswered}
use Rattle.klp_console.specs.Lines.{lines_of, AreAnswered}
use Rattle.klp_lint_findings.specs.declared.linted.NamedText.{NamedText}
use Rattle.klp_lint_findings.specs.declared.findings.Findings.{Findings}
use Rattle.klp_lint.specs.Premises.{ArePatchesOf}
use Rattle.klp_lint_findings.specs.declared.finding.Finding.{Finding}
use Rattle.klp_lint_findings.specs.declared.finding.Finding.TheVariants.{Line}
use Rattle.klp_lint_findings.specs.declared.finding.RefusedLine.{RefusedLine}
use Rattle.klp_lint_findings.specs.declared.findings.World.{World}
use Rattle.klp_lint_findings.specs.Claims.{IsTrue}
use Rattle.klp_lint_findings.specs.Deciding.{is_clean}
use Rattle.klp_lint_findings.specs.Listed.{Lists}
use Rattle.klp_lint_findings.specs.Saying.{is_said_of, Says}
use Rattle.klp_lint_findings.specs.Standing.{Standing, sealed}
use Rattle.klp_lint_findings.specs.Sound.{one_decides}
use Rattle.klp_lint_together.specs.Starting.{CanStart}

-- the state after this many modules were loaded one after another, of which the first has the number 1
abbrev pub with_modules : Setting → State → ℕ → State
with_modules setting state zero = state
with_modules setting state (suc modules) = next setting (with_modules setting state modules) (Coming (suc modules))

-- whether one of the lines was refused, or was no line
abbrev pub one_is_refused : List Answer → Bool
one_is_refused answers = list_any (λ (a : Answer). a.is_refused) answers

-- A line of a script was done. It was refused, or was no line, if this says so.
pub record IsLineDone (before after : Journaled) (line : List ℕ) (refused : Bool) : Type 0 where
  pub answer : Answer
  pub answered : IsAnswered before after line answer
  pub is_refused : answer.is_refused ≡ refused

-- A line of a script was done. If it was refused, the list makes the status 3.
pub record IsLineReported (before after : Journaled) (line : List ℕ) (found : Findings) : Type 0 where
  pub refused : Bool
  pub done : IsLineDone before after line refused
  pub reported : refused ≡ true → one_decides found.said.items ≡ true

-- The lines of a script were done in order, and left this manager. If one was refused, the list makes the status 3.
pub record IsScripted (start there : Journaled) (script : List ℕ) (found : Findings) : Type 0 where
  pub answers : List Answer
  pub answered : AreAnswered start there (lines_of script) answers
  pub refused : one_is_refused answers ≡ true → one_decides found.said.items ≡ true

-- The patch can be loaded now, and leaves no trace if it is withdrawn later; or it is installed, and so isn't asked about.
abbrev pub IsReady : Setting → State → ℕ → Type 0
IsReady setting state patch = (CanStart setting state patch × IsFairStart setting patch state) ⊎ (is_installed state patch ≡ true)

-- If the list makes the status 0, then the first patches of the catalog, this many, are ready in this state.
pub record Assures (setting : Setting) (state : State) (patches : ℕ) (found : Findings) : Type 0 where
  pub ready : ArePatchesOf setting found.linted.patches.now → is_clean found.said.items found.linted.marks.now ≡ true
      → (patch : ℕ) → patch < patches → IsReady setting state patch

-- The list goes on about the same catalog, and keeps what it says, and what makes the status 3. What it says more is of this world,
-- and true of this manager.
pub record AddsIn (world : World) (here : Standing) (before after : Findings) : Type 0 where
  pub linted : after.linted ≡ before.linted
  pub kept : one_decides before.said.items ≡ true → one_decides after.said.items ≡ true
  pub still : (full : Bool) (finding : Finding) → Says before.said.items full finding → Says after.said.items full finding
  pub more : (full : Bool) (finding : Finding) → Says after.said.items full finding
      → Says before.said.items full finding ⊎ ((is_said_of world full ≡ true) × IsTrue before.linted here finding)

-- the state of the world with all modules, if `full`, or else of the one without modules
abbrev pub world_state : Setting → State → ℕ → Bool → State
world_state setting state modules true = with_modules setting state modules
world_state setting state modules false = state

-- each finding is true of the world of which it is said
abbrev pub AreTrue : (Bool → Standing) → Findings → Type 0
AreTrue world found = (full : Bool) (finding : Finding) → Says found.said.items full finding → IsTrue found.linted (world full) finding

-- Each finding is true: without a script, of the world without modules or the one with all modules; with a script, of the state
-- that its lines left.
abbrev pub AreAllTrue : Journaled → Option NamedText → ℕ → Findings → Type 0
AreAllTrue start None modules found =
    AreTrue (λ full. sealed (setting_of start.managed) (world_state (setting_of start.managed) start.managed.state modules full)) found
AreAllTrue start (Some script) modules found =
    (there : Journaled) × IsScripted start there script.bytes.now found × (setting_of there.managed ≡ setting_of start.managed)
    × AreTrue (λ full. sealed (setting_of start.managed) there.managed.state) found

-- the finding is about a line of the script
abbrev pub IsLine : Finding → Type 0
IsLine finding = (line : RefusedLine) × (finding ≡ Line line)

-- What the list assures of this many patches: without a script, as long as no module is loaded, and with all modules loaded;
-- with a script, in the state that its lines left.
abbrev pub AssuresAll : Journaled → Option NamedText → ℕ → ℕ → Findings → Type 0
AssuresAll start None modules patches found =
    Assures (setting_of start.managed) start.managed.state patches found
    × Assures (setting_of start.managed) (with_modules (setting_of start.managed) start.managed.state modules) patches found
AssuresAll start (Some script) modules patches found =
    (there : Journaled) × IsScripted start there script.bytes.now found × (setting_of there.managed ≡ setting_of start.managed)
    × Assures (setting_of start.managed) there.managed.state patches found

-- Each of this many patches leaves no trace in its world, or is installed, or the list says that a premise fails: without a script,
-- as long as no module is loaded, and with all modules loaded; with a script, in the state that its lines left.
abbrev pub AllListed : Journaled → Option NamedText → ℕ → ℕ → Findings → Type 0
AllListed start None modules patches found =
    (full : Bool) (patch : ℕ) → patch < patches
    → Lists (setting_of start.managed) (world_state (setting_of start.managed) start.managed.state modules full) patch full found
AllListed start (Some script) modules patches found =
    (there : Journaled) × IsScripted start there script.bytes.now found × (setting_of there.managed ≡ setting_of start.managed)
    × ((full : Bool) (patch : ℕ) → patch < patches → Lists (setting_of start.managed) there.managed.state patch full found)
