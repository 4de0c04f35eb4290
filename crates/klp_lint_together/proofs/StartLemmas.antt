-- A patch whose outcome is that it started can be loaded by the rules.
use Rattle.std.proofs.Common.{◌≡◌, ◌⊎◌, ℕ, Bool, true, false, Result, Ok, Err, refl, sym, subst, ◌∙◌, inl, inr}
use Rattle.std.specs.Prelude.{IfOk}
use Rattle.klp_types.specs.Setting.{Setting}
use Rattle.klp_model.specs.State.{State}
use Rattle.klp_manager_state.specs.Managed.{setting_of}
use Rattle.klp_core.specs.Journaled.{Journaled}
use Rattle.klp_lint_findings.specs.declared.findings.Findings.{Findings}
use Rattle.klp_lint_findings.specs.Sound.{one_decides}
use Rattle.klp_lint_together.specs.Kept.{IsAsBefore}
use Rattle.klp_model.specs.declared.event.Reply.{Reply}
use Rattle.klp_model.specs.declared.event.Reply.TheVariants as reply
use Rattle.klp_model.specs.declared.event.Refusal.{Refusal}
use Rattle.klp_model.specs.declared.event.Refusal.TheVariants as refusal
use Rattle.klp_core.specs.Taking.{unless_full}
use Rattle.klp_lint_together.specs.Starting.{outcome_of, Tells, CanStart, StartsUnlessReported}
use Rattle.klp_lint_together.specs.declared.loading.LoadOutcome.TheVariants.{Started, NoSymbol}
use Rattle.klp_lint_together.specs.declared.loading.LoadOutcome.{LoadOutcome}

refused : (why : Refusal) → outcome_of (Err why) ≡ Started → ⊥
refused refusal.NoPatch h = cc
refused refusal.Busy h = cc
refused refusal.AlreadyThere h = cc
refused refusal.Pinned h = cc
refused refusal.Incompatible h = cc
refused refusal.NoSymbol h = cc
refused refusal.NoModule h = cc
refused refusal.InUse h = cc
refused refusal.NoTask h = cc
refused refusal.TaskThere h = cc
refused refusal.WrongMode h = cc
refused refusal.BadFrame h = cc
refused refusal.Full h = cc
refused refusal.JournalFull h = cc
refused refusal.NotMoving h = cc
refused refusal.Exists h = cc
refused refusal.NotFound h = cc
refused refusal.SameValue h = cc

replied : (answer : Reply) → outcome_of (Ok answer) ≡ Started → answer ≡ reply.Started
replied reply.Done h = absurd (cc)
replied reply.Started h = refl
replied reply.Reversed h = absurd (cc)
replied (reply.Pending count) h = absurd (cc)
replied (reply.Completed target) h = absurd (cc)
replied (reply.PreFailed patch object status) h = absurd (cc)
replied (reply.Value value) h = absurd (cc)
replied (reply.Freed count) h = absurd (cc)
replied (reply.Woken frames) h = absurd (cc)

pub started : (room : Bool) (answer : Result Reply Refusal) → outcome_of (unless_full room answer) ≡ Started → answer ≡ Ok reply.Started
started room (Err why) h = absurd (refused why h)
started true (Ok answer) h = let same = replied answer h in λ i. Ok (same i)
started false (Ok answer) h = absurd (cc)

-- the outcome of an answer tells of it
pub tells_refusal : (why : Refusal) → Tells (Err why) (outcome_of (Err why))
tells_refusal refusal.Incompatible = refl
tells_refusal refusal.NoSymbol = refl
tells_refusal refusal.Full = refl
tells_refusal refusal.Pinned = refl
tells_refusal refusal.NoPatch = λ h. absurd (cc)
tells_refusal refusal.Busy = λ h. absurd (cc)
tells_refusal refusal.AlreadyThere = λ h. absurd (cc)
tells_refusal refusal.NoModule = λ h. absurd (cc)
tells_refusal refusal.InUse = λ h. absurd (cc)
tells_refusal refusal.NoTask = λ h. absurd (cc)
tells_refusal refusal.TaskThere = λ h. absurd (cc)
tells_refusal refusal.WrongMode = λ h. absurd (cc)
tells_refusal refusal.BadFrame = λ h. absurd (cc)
tells_refusal refusal.JournalFull = λ h. absurd (cc)
tells_refusal refusal.NotMoving = λ h. absurd (cc)
tells_refusal refusal.Exists = λ h. absurd (cc)
tells_refusal refusal.NotFound = λ h. absurd (cc)
tells_refusal refusal.SameValue = λ h. absurd (cc)

pub tells_answer : (answer : Result Reply Refusal) → Tells answer (outcome_of answer)
tells_answer (Err why) = tells_refusal why
tells_answer (Ok reply.Started) = refl
tells_answer (Ok (reply.PreFailed patch object status)) = (patch, refl)
tells_answer (Ok reply.Done) = λ h. absurd (cc)
tells_answer (Ok reply.Reversed) = λ h. absurd (cc)
tells_answer (Ok (reply.Pending count)) = λ h. absurd (cc)
tells_answer (Ok (reply.Completed target)) = λ h. absurd (cc)
tells_answer (Ok (reply.Value value)) = λ h. absurd (cc)
tells_answer (Ok (reply.Freed count)) = λ h. absurd (cc)
tells_answer (Ok (reply.Woken frames)) = λ h. absurd (cc)

-- the outcome was that of an answer
pub tells_outcome : (answer : Result Reply Refusal) (outcome : LoadOutcome) → outcome ≡ outcome_of answer → Tells answer outcome
tells_outcome answer outcome is = subst (Tells answer) (sym is) (tells_answer answer)

-- a patch was loaded by the rules
pub tells_started : (answer : Result Reply Refusal) (outcome : LoadOutcome) → outcome ≡ outcome_of answer → outcome ≡ Started
    → answer ≡ Ok reply.Started
tells_started answer outcome is started = subst (Tells answer) started (tells_outcome answer outcome is)

-- a refused patch isn't loaded
pub refused_by : (answer : Result Reply Refusal) (why : Refusal) → answer ≡ Err why → answer ≡ Ok reply.Started → ⊥
refused_by answer why is started = let both = sym is ∙ started in cc

pub not_loaded : (answer : Result Reply Refusal) (outcome : LoadOutcome) → (outcome ≡ Started) ⊎ (outcome ≡ NoSymbol) → Tells answer outcome
    → (outcome ≡ Started → ⊥) → answer ≡ Ok reply.Started → ⊥
not_loaded answer outcome (inl started) tells not is = not started
not_loaded answer outcome (inr missing) tells not is = refused_by answer refusal.NoSymbol (subst (Tells answer) missing tells) is

-- a patch that can be loaded is reported or not, whatever memory there is
pub ok_starts : {E : Type 0} (result : Result Unit E) (setting : Setting) (state : State) (patch : ℕ) (found : Findings) → CanStart setting state patch
    → IfOk result (λ _. StartsUnlessReported setting state patch found)
ok_starts (Ok done) setting state patch found can = record { starts = λ calm. inl can }
ok_starts (Err fault) setting state patch found can = tt

-- what fails of the later of two tests fails of the earlier, if that is the stronger
still_false : (one two : Bool) → (one ≡ true → two ≡ true) → two ≡ false → one ≡ false
still_false true two kept h = let no = kept refl in absurd (cc)
still_false false two kept h = refl

pub starts_on : (setting : Setting) (state : State) (patch : ℕ) (one two : Findings) → (one_decides one.said.items ≡ true → one_decides two.said.items ≡ true)
    → StartsUnlessReported setting state patch one → StartsUnlessReported setting state patch two
starts_on setting state patch one two kept starts = record {
  starts = λ calm. starts.starts (still_false (one_decides one.said.items) (one_decides two.said.items) kept calm);
}

-- a manager that is as before was tried
pub starts_before : (before now : Journaled) (patch : ℕ) (found : Findings) → IsAsBefore before now
    → StartsUnlessReported (setting_of now.managed) now.managed.state patch found
    → StartsUnlessReported (setting_of before.managed) before.managed.state patch found
starts_before before now patch found kept starts =
    subst (λ (s : State). StartsUnlessReported (setting_of before.managed) s patch found) kept.state
    (subst (λ (s : Setting). StartsUnlessReported s now.managed.state patch found) kept.setting starts)
