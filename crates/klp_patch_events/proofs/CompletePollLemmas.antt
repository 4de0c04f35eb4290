-- A transition that is tried leads where its step says.
use Rattle.std.proofs.Common.{◌≡◌, Some, None, sym, ap, ◌∙◌}
use Rattle.klp_types.specs.declared.version.Transition.{Transition}
use Rattle.klp_types.specs.Callbacks.{after_calls}
use Rattle.klp_model.specs.declared.event.Event.TheVariants.{Poll}
use Rattle.klp_model.specs.declared.event.Reply.TheVariants.{Completed}
use Rattle.klp_model.specs.Blocked.{tried, pending, blocked}
use Rattle.klp_model.specs.Callbacks.{end_calls}
use Rattle.klp_model.specs.Completing.{completed, completed_or_pending, polled, settled}
use Rattle.klp_model.specs.Entries.{entries_of}
use Rattle.klp_model.specs.EventCalls.{poll_calls, once_done}
use Rattle.klp_model.specs.Step.{accepted}
use Rattle.klp_model.specs.Task.{at_rest}
use Rattle.klp_catalog.specs.Catalog.{Catalog}
use Rattle.klp_catalog.specs.Runs.{after_runs}
use Rattle.klp_modules.specs.Names.{ModuleTable}
use Rattle.klp_manager_state.specs.declared.state.ManagerState.{ManagerState}
use Rattle.klp_patch_events.specs.Complete.{IsCompleted}
use Rattle.klp_manager_state.specs.Invariant.{Invariant}
use Rattle.klp_manager_state.specs.Managed.{setting_in, state_in}
use Rattle.klp_manager_state.proofs.StepLemmas.{IsStep}
use Rattle.klp_patch_events.proofs.CompleteTaskLemmas.{rest_each}

pub is_completed : (before mid after : ManagerState) (catalog now : Catalog) (move : Transition) → Invariant before catalog → before.moving ≡ Some move
    → mid ≡ record before { tasks = tried (setting_in before catalog) (state_in before catalog) move; blocked = mid.blocked; log = mid.log }
    → pending (setting_in before catalog) (state_in before catalog) move ≡ 0 → IsCompleted mid after catalog now move → IsStep before after catalog now Poll (Completed move.target)
is_completed before mid after catalog now move holds moving is none done =
    let setting = setting_in before catalog in
    let state = state_in before catalog in
    let leads : accepted setting state Poll ≡ completed setting state move =
    ap (polled setting state) moving ∙ ap (completed_or_pending setting state move (tried setting state move)) none in
    let loaded = ap (λ s. s.loaded) done.state ∙ ap (λ (p : ManagerState). p.sites.loaded) is in
    record {
      says = sym (ap (λ o. o.0) leads);
      state = done.state
          ∙ ap (λ (p : ManagerState). (completed (setting_in p catalog) (state_in p catalog) move).1) is
          ∙ ap (λ ts. record state { world = settled setting (after_calls state.world (end_calls setting state (Some move))) move; moving = None; tasks = ts })
          (rest_each at_rest (blocked setting state move) move.target before.tasks)
          ∙ sym (ap (λ o. o.1) leads);
      runs = done.runs
          ∙ ap (λ (p : ManagerState). after_runs catalog (end_calls (setting_in p catalog) (state_in p catalog) (Some move))) is
          ∙ ap (λ n. after_runs catalog (once_done n (end_calls setting state (Some move)))) (sym none)
          ∙ ap (λ m. after_runs catalog (poll_calls setting state m)) (sym moving);
      image = done.image ∙ ap (λ (p : ManagerState). p.sites.image) is;
      modules = done.modules ∙ ap (λ (p : ManagerState). p.modules) is ∙ ap (λ (m : ModuleTable). record before.modules { loaded = m.loaded }) holds.modules_are
          ∙ ap (λ l. record before.modules { loaded = l }) (sym loaded);
      entries = λ site. done.entries site ∙ ap (λ (p : ManagerState). entries_of (setting_in p catalog) (state_in after now) site) is;
      room = done.room;
    }
