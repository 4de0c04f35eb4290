-- A patch that is gone again, between two managers of which the later one goes on from the earlier.
use Rattle.std.proofs.Common.{◌≡◌, ℕ, false, List, [], ◌∷◌, ◌++◌, drop, length, map, refl, sym, ap, subst, ◌∙◌, append-nil}
use Rattle.std.proofs.Math.Seq.{drop-append_seam}
use Rattle.klp_types.specs.declared.shadow.ShadowKey.{ShadowKey}
use Rattle.klp_types.specs.Setting.{Setting}
use Rattle.klp_types.specs.World.{variable}
use Rattle.klp_model.specs.declared.event.Event.{Event}
use Rattle.klp_model.specs.declared.event.Reply.{Reply}
use Rattle.klp_model.specs.Company.{company_keys, IsFairCompany}
use Rattle.klp_model.specs.Footprint.{SameFootprint}
use Rattle.klp_model.specs.Legal.{state_after_history}
use Rattle.klp_model.specs.Run.{next, run}
use Rattle.klp_model.specs.ShadowStep.{shadow_changes}
use Rattle.klp_model.specs.State.{State, is_installed}
use Rattle.klp_journal.specs.Journal.{Group}
use Rattle.klp_manager_state.specs.Managed.{setting_of}
use Rattle.klp_core.specs.Journaled.{Journaled, history_in, IsWellFormed}
use Rattle.klp_core.specs.Withdrawal.{GoesOn, appended, LeavesNoTrace}

abbrev events_in : List Group → List Event
events_in groups = map (λ (g : Group). g.event) groups

events_effective : (groups : List Group) → map (λ (p : Event × Reply). p.0) (history_in groups) ≡ events_in groups
events_effective [] = refl
events_effective (group ∷ groups) = ap (λ es. group.event ∷ es) (events_effective groups)

-- more groups lead on from where the first lead
led_on : (setting : Setting) (base : State) (groups more : List Group)
    → state_after_history setting base (history_in (groups ++ more)) ≡ run setting (state_after_history setting base (history_in groups)) (events_in more)
led_on setting base [] more = ap (run setting base) (events_effective more)
led_on setting base (group ∷ groups) more = led_on setting (next setting base group.event) groups more

appended_are : (earlier later : Journaled) → (goes_on : GoesOn earlier later) → appended earlier later ≡ events_in goes_on.more
appended_are earlier later goes_on =
    ap (λ gs. events_in (drop (length earlier.groups) gs)) goes_on.groups ∙ ap events_in (drop-append_seam earlier.groups goes_on.more)

led_by : (earlier later : Journaled) → IsWellFormed earlier → IsWellFormed later → GoesOn earlier later → setting_of later.managed ≡ setting_of earlier.managed
    → later.managed.state ≡ run (setting_of earlier.managed) earlier.managed.state (appended earlier later)
led_by earlier later stood well_formed goes_on same =
    let setting = setting_of earlier.managed in
    well_formed.state
    ∙ ap (λ (s : Setting). state_after_history s later.base (history_in later.groups)) same
    ∙ ap (λ (b : State). state_after_history setting b (history_in later.groups)) goes_on.base
    ∙ ap (λ (gs : List Group). state_after_history setting earlier.base (history_in gs)) goes_on.groups
    ∙ led_on setting earlier.base earlier.groups goes_on.more
    ∙ ap (λ (s : State). run setting s (events_in goes_on.more)) (sym stood.state)
    ∙ ap (run setting earlier.managed.state) (sym (appended_are earlier later goes_on))

abbrev pub IsGoneWithoutATrace : Type 0
IsGoneWithoutATrace = (setting : Setting) (patch : ℕ) (start : State) (events : List Event) → IsFairCompany setting patch start events
    → is_installed (run setting start events) patch ≡ false → SameFootprint setting (company_keys setting start patch) (run setting start events) start

abbrev pub AreOutsideAsMade : Type 0
AreOutsideAsMade = (setting : Setting) (patch : ℕ) (start : State) (first second : List Event) → IsFairCompany setting patch start (first ++ second)
    → (key : ShadowKey) → company_keys setting start patch key ≡ false → variable (run setting start first).world key ≡ variable (shadow_changes start.world first) key

pub leaves_no_trace : IsGoneWithoutATrace → AreOutsideAsMade → (earlier later : Journaled) → IsWellFormed earlier → IsWellFormed later → GoesOn earlier later
    → setting_of later.managed ≡ setting_of earlier.managed → LeavesNoTrace earlier later
leaves_no_trace gone outside earlier later stood well_formed goes_on same =
    let setting = setting_of earlier.managed in
    let start = earlier.managed.state in
    let events = appended earlier later in
    let led = led_by earlier later stood well_formed goes_on same in
    record {
      footprint = λ patch fair away.
          subst (λ s. SameFootprint setting (company_keys setting start patch) s start) (sym led)
          (gone setting patch start events fair (subst (λ s. is_installed s patch ≡ false) led away));
      outside = λ patch fair key own.
          ap (λ (s : State). variable s.world key) led
          ∙ outside setting patch start events [] (subst (IsFairCompany setting patch start) (sym (append-nil events)) fair) key own;
    }
