-- What the status 0 says of a whole catalog.
use Rattle.std.specs.Prelude.{◌≡◌, ℕ, ◌-◌, ◌<◌, ◌≤◌, Bool, true, false, List, length, map, Option, Some, None, Ok}
use Rattle.std.specs.List.{list_any}
use Rattle.klp_types.specs.declared.limits.TheConstants.{MAX_PATCHES}
use Rattle.klp_types.specs.Setting.{Setting}
use Rattle.klp_modules.specs.Names.{names_of}
use Rattle.klp_catalog_text.specs.Plan.{Plan}
use Rattle.klp_catalog_text.specs.Text.{plan_of}
use Rattle.klp_catalog.specs.Catalog.{setting_patch}
use Rattle.klp_model.specs.State.{State}
use Rattle.klp_model.specs.Opening.{opening_state}
use Rattle.klp_core.specs.Journaled.{Journaled}
use Rattle.klp_console.specs.Answered.{Answer}
use Rattle.klp_console.specs.Lines.{lines_of, AreAnswered}
use Rattle.klp_boot.specs.Booted.{IsBootedOver, image_of}
use Rattle.klp_lint_findings.specs.declared.linted.NamedText.{NamedText}
use Rattle.klp_lint_findings.specs.declared.finding.Finding.{Finding}
use Rattle.klp_lint_findings.specs.declared.findings.Findings.{Findings}
use Rattle.klp_lint_findings.specs.Claims.{Claims}
use Rattle.klp_lint_findings.specs.Deciding.{is_unknown}
use Rattle.klp_lint_findings.specs.Listed.{IsFairOrListed}
use Rattle.klp_lint_findings.specs.Saying.{Says}
use Rattle.klp_lint_findings.specs.Standing.{Standing, sealed}
use Rattle.klp_lint_findings.specs.Marking.{has_unknown}
use Rattle.klp_lint_worlds.specs.declared.lint_plan.LintPlan.{LintPlan}
use Rattle.klp_lint_worlds.specs.Worlds.{with_modules, world_state, one_is_refused, IsReady}

-- what stays of a manager that is booted over a plan: its image, and its patches over the names of that image
abbrev pub setting_of_plan : Plan → Setting
setting_of_plan plan = record { image = image_of plan; patches = map (setting_patch (names_of plan.objects)) plan.patches }

-- each patch of the plan is ready in this state
abbrev pub AreReady : Plan → State → Type 0
AreReady plan state = (patch : ℕ) → patch < length plan.patches → IsReady (setting_of_plan plan) state patch

-- The state is the one that a script leaves of a manager that was booted over the plan, and none of its lines is refused.
pub record IsBehind (plan : Plan) (script : List ℕ) (state : State) : Type 0 where
  pub booted : Journaled
  pub is_booted : IsBootedOver plan booted
  pub there : Journaled
  pub answers : List Answer
  pub answered : AreAnswered booted there (lines_of script) answers
  pub none_refused : one_is_refused answers ≡ false
  pub is_state : state ≡ there.managed.state

-- how many modules the image of a plan has: all objects but the first, which is the kernel
abbrev pub modules_in : Plan → ℕ
modules_in plan = length plan.objects - 1

-- Each patch is ready: without a script, as long as no module is loaded, and with all modules loaded; with a script, in the
-- state that it leaves.
abbrev pub IsClean : Plan → Option NamedText → Type 0
IsClean plan None =
    AreReady plan (opening_state (setting_of_plan plan))
    × AreReady plan (with_modules (setting_of_plan plan) (opening_state (setting_of_plan plan)) (modules_in plan))
IsClean plan (Some script) = (state : State) × IsBehind plan script.bytes.now state × AreReady plan state

-- the text is a catalog whose patches are all ready, and no line of it says that something isn't known
pub record IsCleanText (text : List ℕ) (script : Option NamedText) : Type 0 where
  pub plan : Plan
  pub is_plan : plan_of text ≡ Ok plan
  pub clean : IsClean plan script
  pub all_known : has_unknown text ≡ false

-- The state is the one that a script leaves of a manager that was booted over the plan. Some of its lines may be refused.
pub record IsLeftBy (plan : Plan) (script : List ℕ) (state : State) : Type 0 where
  pub booted : Journaled
  pub is_booted : IsBootedOver plan booted
  pub there : Journaled
  pub answers : List Answer
  pub answered : AreAnswered booted there (lines_of script) answers
  pub is_state : state ≡ there.managed.state

-- each finding claims what is so of the world of which it is said
abbrev pub AreSo : (Bool → Standing) → Findings → Type 0
AreSo world found = (full : Bool) (finding : Finding) → Says found.said.items full finding → Claims found.linted (world full) finding

-- Each finding claims what is so: without a script, of the world without modules or the one with all modules; with a script, of the
-- state that it leaves.
abbrev pub AreSoOver : Plan → Option NamedText → Findings → Type 0
AreSoOver plan None found =
    AreSo
    (λ full. sealed (setting_of_plan plan)
    (world_state (setting_of_plan plan) (opening_state (setting_of_plan plan)) (modules_in plan) full))
    found
AreSoOver plan (Some script) found =
    (state : State) × IsLeftBy plan script.bytes.now state × AreSo (λ full. sealed (setting_of_plan plan) state) found

-- the text is a catalog, and each finding of the list claims what is so of it
pub record AreSoOfText (text : List ℕ) (script : Option NamedText) (found : Findings) : Type 0 where
  pub plan : Plan
  pub is_plan : plan_of text ≡ Ok plan
  pub so : AreSoOver plan script found

-- Each patch leaves no trace, or is installed, or the list says that a premise of the round trip fails for it: without a script, in the
-- world without modules and in the one with all modules; with a script, in the state that it leaves.
abbrev pub AreListedOver : Plan → Option NamedText → Findings → Type 0
AreListedOver plan None found =
    (full : Bool) (patch : ℕ) → patch < length plan.patches
    → IsFairOrListed (setting_of_plan plan)
    (world_state (setting_of_plan plan) (opening_state (setting_of_plan plan)) (modules_in plan) full) patch full found
AreListedOver plan (Some script) found =
    (state : State) × IsLeftBy plan script.bytes.now state
    × ((full : Bool) (patch : ℕ) → patch < length plan.patches → IsFairOrListed (setting_of_plan plan) state patch full found)

-- the text is a catalog, and the list says of each of its patches for which a premise of the round trip fails that it does
pub record AreListedOfText (text : List ℕ) (script : Option NamedText) (found : Findings) : Type 0 where
  pub plan : Plan
  pub is_plan : plan_of text ≡ Ok plan
  pub listed : AreListedOver plan script found

-- what was read is what the text says
pub record IsReadFrom (text : List ℕ) (read : LintPlan) : Type 0 where
  pub plan : Plan
  pub is_plan : plan_of text ≡ Ok plan
  pub objects : read.objects.items ≡ plan.objects
  pub patches : read.patches.items ≡ plan.patches
  pub few : length plan.patches ≤ MAX_PATCHES
  pub unknown : list_any is_unknown read.marks.items ≡ has_unknown text
