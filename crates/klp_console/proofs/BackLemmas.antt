-- Which managers the journal leads back to.
use Rattle.std.proofs.Common.{◌≡◌, ℕ, ◌≤◌, Bool, not, true, false, [], ◌∷◌, ◌++◌, length, take, Option, Some, None, refl, sym, ap, subst, ◌∙◌, append_assoc, append-nil, arith}
use Rattle.std.proofs.Math.Seq.{take-length}
use Rattle.std.proofs.lemmas.Bool.{false≢true}
use Rattle.std.proofs.lemmas.List.{length-append, take-append-le}
use Rattle.std.specs.Prelude.{Result, Ok, Err}
use Rattle.klp_types.specs.Image.{Image}
use Rattle.klp_types.specs.Setting.{Setting}
use Rattle.klp_model.specs.declared.event.Event.{Event}
use Rattle.klp_model.specs.declared.event.Refusal.{Refusal}
use Rattle.klp_model.specs.State.{State}
use Rattle.klp_model.specs.Legal.{state_after_history}
use Rattle.klp_catalog.specs.Catalog.{Catalog}
use Rattle.klp_catalog.specs.Runs.{after_runs}
use Rattle.klp_manager_state.specs.Managed.{setting_of}
use Rattle.klp_core.specs.Events.{may_run_some}
use Rattle.klp_core.specs.Journaled.{Journaled, IsWellFormed, history_in}
use Rattle.klp_core.specs.Rewinding.{IsRewound}
use Rattle.klp_core.specs.Taking.{IsTaken}
use Rattle.klp_core.proofs.MayRunLemmas.{none_runs}
use Rattle.klp_console_commands.specs.declared.request.Request.{Request}
use Rattle.klp_console_commands.specs.declared.request.Request.TheVariants.{Take, ForceNothing, Rewind, Seal, Ask}
use Rattle.klp_console_commands.specs.declared.fault.LineFault.{LineFault}
use Rattle.klp_console.specs.Answered.{Answer, IsDoneIf}
use Rattle.klp_console.specs.Back.{CanGoBack, can_be_taken_back}

-- back to what is there already
pub back_to_now : (now : Journaled) → CanGoBack now now
back_to_now now = record { goes_on = record { more = []; groups = sym (append-nil now.groups); base = refl }; image = refl; catalog = refl }

pub back_same : (earlier now : Journaled) → now ≡ earlier → CanGoBack earlier now
back_same earlier now same = subst (CanGoBack earlier) (sym same) (back_to_now earlier)

pub back_on : (first next last : Journaled) → CanGoBack first next → CanGoBack next last → CanGoBack first last
back_on first next last one two = record {
  goes_on = record {
    more = one.goes_on.more ++ two.goes_on.more;
    groups = two.goes_on.groups ∙ ap (λ groups. groups ++ two.goes_on.more) one.goes_on.groups ∙ append_assoc first.groups one.goes_on.more two.goes_on.more;
    base = two.goes_on.base ∙ one.goes_on.base;
  };
  image = two.image ∙ one.image;
  catalog = two.catalog ∙ one.catalog;
}

-- there are as many events as there were
pub back_within : (earlier now : Journaled) → CanGoBack earlier now → length earlier.groups ≤ length now.groups
back_within earlier now back = omega (arith, ap length back.goes_on.groups, length-append earlier.groups back.goes_on.more)

-- going back leaves the manager that there was
pub back_to : (earlier now after : Journaled) (events : ℕ) → IsWellFormed earlier → CanGoBack earlier now → events ≡ length earlier.groups → IsRewound now after events → after ≡ earlier
back_to earlier now after events well_formed back are rewound =
    let first : take events now.groups ≡ earlier.groups = ap (λ (n : ℕ). take n now.groups) are ∙ ap (take (length earlier.groups)) back.goes_on.groups
    ∙ take-append-le (length earlier.groups) earlier.groups back.goes_on.more (omega arith) ∙ take-length earlier.groups in
    let groups : after.groups ≡ earlier.groups = rewound.groups ∙ first in
    let base : after.base ≡ earlier.base = rewound.base ∙ back.goes_on.base in
    let image : after.managed.image ≡ earlier.managed.image = rewound.image ∙ back.image in
    let catalog : after.managed.catalog ≡ earlier.managed.catalog = rewound.catalog ∙ back.catalog in
    let setting : setting_of now.managed ≡ setting_of earlier.managed =
    ap (λ (i : Image). setting_of (record now.managed { image = i })) back.image ∙ ap (λ (k : Catalog). setting_of (record earlier.managed { catalog = k })) back.catalog in
    let state : after.managed.state ≡ earlier.managed.state = rewound.state ∙ ap (λ (s : Setting). state_after_history s now.base (history_in (take events now.groups))) setting
    ∙ ap (λ (b : State). state_after_history (setting_of earlier.managed) b (history_in (take events now.groups))) back.goes_on.base
    ∙ ap (λ l. state_after_history (setting_of earlier.managed) earlier.base (history_in l)) first ∙ sym well_formed.state in
    λ i. record { managed = record { image = image i; catalog = catalog i; state = state i }; base = base i; groups = groups i }

-- an event that may run no callback can be taken back
taken_back : (before after : Journaled) (event : Event) (result : Result _ Refusal) → may_run_some (setting_of before.managed) before.managed.state event ≡ false
    → IsTaken before after event result → CanGoBack before after
taken_back before after event (Err refused) none taken = back_same before after taken.refused
taken_back before after event (Ok reply) none taken =
    record {
      goes_on = record { more = taken.accepted.group ∷ []; groups = taken.accepted.groups; base = taken.accepted.base };
      image = ap (λ m. m.image) taken.accepted.left;
      catalog = ap (λ m. m.catalog) taken.accepted.left ∙ ap (after_runs before.managed.catalog) (none_runs (setting_of before.managed) before.managed.state event none);
    }

denied : (may : Bool) → not may ≡ true → may ≡ false
denied true wrong = absurd (false≢true wrong)
denied false right = refl

-- a line that can be taken back is taken back by the journal
pub line_back : (before after : Journaled) (request : Option (Result Request LineFault)) (answer : Answer) → can_be_taken_back before request ≡ true → IsDoneIf before after request answer
    → CanGoBack before after
line_back before after None answer can done = back_same before after done.0
line_back before after (Some (Err fault)) answer can done = back_same before after done.0
line_back before after (Some (Ok (Take event))) answer can done = taken_back before after event done.reply (denied (may_run_some (setting_of before.managed) before.managed.state event) can) done.taken
line_back before after (Some (Ok (ForceNothing patch))) answer can done = back_same before after done.0
line_back before after (Some (Ok (Rewind mark))) answer can done = absurd (false≢true can)
line_back before after (Some (Ok Seal)) answer can done = absurd (false≢true can)
line_back before after (Some (Ok (Ask query))) answer can done = back_same before after done.0
