use Rattle.std.proofs.Common.{[], cond, ap, ◌∙◌, sym}
use Rattle.klp_types.specs.declared.callback.Which.TheVariants.{PreUn}
use Rattle.klp_types.specs.Callbacks.{calls_of}
use Rattle.klp_model.specs.Callbacks.{loaded_objects}
use Rattle.klp_patch.specs.Calls.{are_some}
use Rattle.klp_manager_state.specs.Managed.{setting_in, state_in}
use Rattle.klp_patch_events.proofs.RoomLemmas.{same_objects}
use Rattle.klp_patch_events.proofs.callbacks.may_run_setting.Goals as goal

pub returns-then-is_in_transition : goal.returns-then-is_in_transition
returns-then-is_in_transition g c =
    let objects = loaded_objects (setting_in c.args.state.now c.args.catalog.now) (state_in c.args.state.now c.args.catalog.now) c.args.patch in
    sym (ap (λ moves. are_some (cond moves [] (calls_of c.args.patch PreUn objects))) (sym c.is_in_transition.ensures ∙ c.if-is_in_transition.true))

pub returns-else-is_in_transition : goal.returns-else-is_in_transition
returns-else-is_in_transition g c =
    let parts = c.args.state.now in
    let catalog = c.args.catalog.now in
    let objects = loaded_objects (setting_in parts catalog) (state_in parts catalog) c.args.patch in
    c.has_callbacks.ensures
    ∙ ap (λ os. are_some (calls_of c.args.patch PreUn os)) (same_objects parts catalog c.args.patch c.requires)
    ∙ sym (ap (λ moves. are_some (cond moves [] (calls_of c.args.patch PreUn objects))) (sym c.is_in_transition.ensures ∙ c.if-is_in_transition.false))
