-- An event that is refused is taken by changing nothing.
use Rattle.std.proofs.Common.{◌≡◌, Option, Some, Err, sym, ap, ◌∙◌}
use Rattle.klp_types.specs.FirstOf.{unless}
use Rattle.klp_model.specs.declared.event.Event.{Event}
use Rattle.klp_model.specs.declared.event.Refusal.{Refusal}
use Rattle.klp_model.specs.EventCalls.{calls}
use Rattle.klp_model.specs.Run.{answer_of, state_after}
use Rattle.klp_model.specs.Step.{accepted, calls_unless}
use Rattle.klp_catalog.specs.Catalog.{Catalog}
use Rattle.klp_catalog.specs.Runs.{after_runs}
use Rattle.klp_manager_state.specs.declared.state.ManagerState.{ManagerState}
use Rattle.klp_manager_state.specs.Events.{TakesEvent}
use Rattle.klp_manager_state.specs.Invariant.{Invariant}
use Rattle.klp_manager_state.specs.Managed.{Managed, setting_of, managed_of, refused_in}
use Rattle.klp_manager_state.specs.StepLaws.{StepLaws}

pub refused_taken : StepLaws → (before : ManagerState) (catalog : Catalog) (event : Event) (reason : Refusal) → Invariant before catalog
    → Some reason ≡ refused_in before catalog event
    → TakesEvent before before catalog catalog event (Err reason)
refused_taken laws before catalog event reason holds is =
    let managed : Managed = managed_of before catalog in
    let quiet = calls (setting_of managed) managed.state event in
    let outcome = accepted (setting_of managed) managed.state event in
    record {
      takes = record {
        answered = ap (λ (r : Option Refusal). answer_of (unless r outcome)) is;
        left = ap (λ (k : Catalog). record managed { catalog = k }) (sym (laws.none catalog))
            ∙ ap (λ (r : Option Refusal). record managed { catalog = after_runs catalog (calls_unless r quiet); state = state_after managed.state (unless r outcome) }) is;
      };
      kept = holds;
    }
