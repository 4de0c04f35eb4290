-- What a finding claims, of the catalog and of the manager over which it is found.
use Rattle.std.specs.Prelude.{◌≡◌, ◌⊎◌, ℕ, ◌≤◌, Bool, true, false, List, [], ◌∷◌, length, take, is_some, Option, Some, None, Result, Ok, Err}
use Rattle.klp_types.specs.declared.shadow.ShadowKey.{ShadowKey}
use Rattle.klp_types.specs.Entries.{patches_site}
use Rattle.klp_types.specs.World.{variable, state_value}
use Rattle.klp_modules.specs.Names.{names_of}
use Rattle.klp_catalog_text.specs.Plan.{PlanPatch, PlanTarget}
use Rattle.klp_model.specs.declared.event.Event.{Event}
use Rattle.klp_model.specs.declared.event.Event.TheVariants.{Enable, Poll, SetEnabled}
use Rattle.klp_model.specs.declared.event.Reply.{Reply}
use Rattle.klp_model.specs.declared.event.Reply.TheVariants.{Started, PreFailed}
use Rattle.klp_model.specs.declared.event.Refusal.{Refusal}
use Rattle.klp_model.specs.declared.event.Refusal.TheVariants as refusal
use Rattle.klp_model.specs.State.{is_loaded}
use Rattle.klp_model.specs.Company.{IsFairStart}
use Rattle.klp_core.specs.Journaled.{Journaled}
use Rattle.klp_lint.specs.Premises.{ArePatchesOf, Fails, HoldEverywhere}
use Rattle.klp_lint.specs.Undone.{found_by, left_behind}
use Rattle.klp_lint.specs.declared.premise.Premise.TheVariants as premise
use Rattle.klp_lint_findings.specs.declared.finding.Finding.{Finding}
use Rattle.klp_lint_findings.specs.declared.finding.Finding.TheVariants.{Line, Trace, Part, Load, Replace, Count}
use Rattle.klp_lint_findings.specs.declared.findings.Findings.{Findings}
use Rattle.klp_lint_findings.specs.declared.finding.LoadFinding.{LoadFinding}
use Rattle.klp_lint_findings.specs.declared.finding.LoadFinding.TheVariants.{NotStarted}
use Rattle.klp_lint_findings.specs.declared.finding.ReplaceFinding.{ReplaceFinding}
use Rattle.klp_lint_findings.specs.declared.finding.ReplaceFinding.TheVariants.{Forgets, LosesFunctions, Leaves, Loses}
use Rattle.klp_lint_findings.specs.declared.finding.TraceFinding.{TraceFinding}
use Rattle.klp_lint_findings.specs.declared.finding.TraceFinding.TheVariants.{Clean, Guessed, Installed, Moving, NotLoaded, NotUnderstood, MaybeCumulative, NotUndone, NotApart}
use Rattle.klp_lint_findings.specs.declared.finding.WhyNotLoaded.{WhyNotLoaded}
use Rattle.klp_lint_findings.specs.declared.finding.WhyNotLoaded.TheVariants as why
use Rattle.klp_lint_findings.specs.declared.linted.Linted.{Linted}
use Rattle.klp_lint_findings.specs.declared.marks.MarkWord.TheVariants as word
use Rattle.klp_lint_findings.specs.Marking.{IsMarked}
use Rattle.klp_lint_findings.specs.Saying.{Adds}
use Rattle.klp_lint_findings.specs.Standing.{Standing, answer_at, LeadsTo}
use Rattle.klp_lint_findings.specs.Targets.{target_at, callbacks_for, site_at, has_function}

-- the patch has a target at this place, which has the property
abbrev pub HasTarget : List PlanPatch → ℕ → ℕ → (PlanTarget → Type 0) → Type 0
HasTarget patches patch place P = (target : PlanTarget) × (target_at patches patch place ≡ Some target) × P target

-- A patch that leaves no trace is at a fair start of the round trip; it leaves none everywhere only if the premises hold
-- everywhere. Of a premise that fails, the finding names this one, with the values that the variable has before and behind both
-- callbacks of the pair. What isn't judged is for an object that isn't loaded, or a mark of the catalog says so.
abbrev pub ClaimsTrace : Linted → Standing → ℕ → TraceFinding → Type 0
ClaimsTrace linted here patch (Clean is_everywhere is_partial) =
    IsFairStart here.setting patch here.state × (is_everywhere ≡ true → HoldEverywhere here.setting patch here.state)
ClaimsTrace linted here patch (Guessed place mark) =
    IsFairStart here.setting patch here.state × IsMarked linted.marks.now word.Guessed mark
ClaimsTrace linted here patch Installed = Fails here.setting patch here.state premise.Installed
ClaimsTrace linted here patch Moving = Fails here.setting patch here.state premise.Moving
ClaimsTrace linted here patch (NotLoaded place) =
    HasTarget linted.patches.now patch place
    (λ (t : PlanTarget). (is_loaded here.state t.object ≡ false) × (t.callbacks ≡ [] → ⊥))
ClaimsTrace linted here patch (NotUnderstood place mark) =
    HasTarget linted.patches.now patch place (λ (t : PlanTarget). is_loaded here.state t.object ≡ true)
    × IsMarked linted.marks.now word.Unknown mark
ClaimsTrace linted here patch (MaybeCumulative mark) =
    IsMarked linted.marks.now word.Unknown mark ⊎ IsMarked linted.marks.now word.Guessed mark
ClaimsTrace linted here patch (NotUndone place pair key found left) =
    let callbacks = callbacks_for (target_at linted.patches.now patch place) in
    Fails here.setting patch here.state (premise.NotUndone place pair key)
    × (found ≡ found_by pair callbacks key (variable here.state.world key))
    × (left ≡ left_behind pair callbacks key (variable here.state.world key))
ClaimsTrace linted here patch (NotApart first second key) = Fails here.setting patch here.state (premise.NotApart first second key)

-- Why a patch isn't loaded, by the answer to its `Enable`. Where marks say that a call of pre-patch fails, nothing is claimed,
-- since the rules know no such call.
abbrev pub ClaimsWhy : Result Reply Refusal → WhyNotLoaded → Type 0
ClaimsWhy answer (why.Fails object status) = (patch : ℕ) × (answer ≡ Ok (PreFailed patch object status))
ClaimsWhy answer (why.Exists object key) = Unit {0}
ClaimsWhy answer (why.Conflicts conflict) = answer ≡ Err refusal.Incompatible
ClaimsWhy answer why.Full = answer ≡ Err refusal.Full
ClaimsWhy answer why.Pinned = answer ≡ Err refusal.Pinned
ClaimsWhy answer why.Refused = answer ≡ Ok Started → ⊥

-- a patch that can't be loaded has such an answer now; other findings about loading claim nothing here
abbrev pub ClaimsLoad : Standing → ℕ → LoadFinding → Type 0
ClaimsLoad here patch (NotStarted why) = ClaimsWhy (answer_at here (Enable patch)) why
ClaimsLoad here patch finding = Unit {0}

-- the events that load a patch
abbrev pub loading : ℕ → List Event
loading patch = Enable patch ∷ Poll ∷ []

-- the events that load a patch, load a cumulative one over it, and withdraw the cumulative one
abbrev pub replacing : ℕ → ℕ → List Event
replacing other patch = Enable other ∷ Poll ∷ Enable patch ∷ Poll ∷ SetEnabled patch false ∷ Poll ∷ []

-- the events that load a patch, and withdraw it
abbrev pub withdrawing : ℕ → List Event
withdrawing patch = Enable patch ∷ Poll ∷ SetEnabled patch false ∷ Poll ∷ []

-- behind these events, the variable is there, or it is missing
abbrev pub IsThereBehind : Standing → List Event → ShadowKey → Bool → Type 0
IsThereBehind here events key there =
    (last : Journaled) × LeadsTo here events last × (is_some (variable last.managed.state.world key) ≡ there)

-- from the end of the first patch's transition to the end of the events, the variable is there, or it is missing
abbrev pub StaysSo : Standing → List Event → ShadowKey → Bool → Type 0
StaysSo here events key there = (count : ℕ) → 2 ≤ count → count ≤ length events → IsThereBehind here (take count events) key there

-- the system state is there, and isn't 0
abbrev pub IsSet : Option ℕ → Type 0
IsSet None = ⊥
IsSet (Some value) = value ≡ 0 → ⊥

-- behind these events, the system state of the patch isn't 0
abbrev pub IsSetBehind : Standing → List Event → ℕ → ℕ → Type 0
IsSetBehind here events patch id =
    (last : Journaled) × LeadsTo here events last × IsSet (state_value last.managed.state.world patch id)

-- the function with this number, of a target of the other patch, replaces a symbol at whose site the patch has no function
abbrev pub IsLost : Linted → Standing → ℕ → ℕ → ℕ → ℕ → Type 0
IsLost linted here patch other place number =
    (site : ℕ)
    × (site_at (names_of here.setting.image.objects) (target_at linted.patches.now other place) number ≡ Some site)
    × (patches_site here.setting site patch ≡ false)

-- A system state that is forgotten isn't 0 now, or isn't 0 once the other patch is loaded. The patch changes none of the functions that
-- it loses. A variable that is left wasn't there before, and is there all the time from when the other patch is loaded to when the
-- cumulative one is withdrawn. One that is lost was there, is missing all that time, and is there where the other patch is withdrawn by
-- itself. Nothing is claimed here of which patches are taken out, of the states that are taken over, and of patches that can't be
-- loaded again.
abbrev pub ClaimsReplace : Linted → Standing → ℕ → ReplaceFinding → Type 0
ClaimsReplace linted here patch (Forgets other id is_sure) =
    IsSet (state_value here.state.world other id) ⊎ IsSetBehind here (loading other) other id
ClaimsReplace linted here patch (LosesFunctions other place functions) =
    (number : ℕ) → has_function functions number ≡ true → IsLost linted here patch other place number
ClaimsReplace linted here patch (Leaves other key is_sure) =
    (variable here.state.world key ≡ None) × StaysSo here (replacing other patch) key true
ClaimsReplace linted here patch (Loses other key is_sure) =
    (is_some (variable here.state.world key) ≡ true) × StaysSo here (replacing other patch) key false
    × IsThereBehind here (withdrawing other) key true
ClaimsReplace linted here patch finding = Unit {0}

-- nothing is claimed here of lines of the script, parts of a patch, and counts
abbrev pub Claims : Linted → Standing → Finding → Type 0
Claims linted here (Line line) = Unit {0}
Claims linted here (Trace patch finding) = ClaimsTrace linted here patch finding
Claims linted here (Part patch finding) = Unit {0}
Claims linted here (Load patch finding) = ClaimsLoad here patch finding
Claims linted here (Replace patch finding) = ClaimsReplace linted here patch finding
Claims linted here (Count finding) = Unit {0}

-- The finding is true of such a manager, if it was booted over the catalog: what the finding claims is so.
unfoldable pub IsTrue : Linted → Standing → Finding → Type 0
IsTrue linted here finding = ArePatchesOf here.setting linted.patches.now → Claims linted here finding

-- the list goes on, and what it says more, of the world that is judged now, is true of this manager
abbrev pub AddsTrue : Standing → Findings → Findings → Type 0
AddsTrue here before after = Adds (IsTrue before.linted here) before after
