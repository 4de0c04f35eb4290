use Rattle.std.proofs.Common.{◌≡◌, sym, ap, ◌∙◌}
use Rattle.std.specs.Prelude.{◌||◌}
use Rattle.klp_types.specs.declared.callback.Which.TheVariants.{Pre, PostUn}
use Rattle.klp_types.specs.Callbacks.{calls_of}
use Rattle.klp_model.specs.Callbacks.{loaded_objects}
use Rattle.klp_patch.specs.Calls.{are_some}
use Rattle.klp_patch.proofs.SomeLemmas.{some-append}
use Rattle.klp_manager_state.specs.Managed.{setting_in, state_in}
use Rattle.klp_patch_events.proofs.RoomLemmas.{same_objects}
use Rattle.klp_patch_events.proofs.callbacks.may_run_enabling.Goals as goal

pub returns : goal.returns
returns g c =
    let parts = c.args.state.now in
    let catalog = c.args.catalog.now in
    let objects = loaded_objects (setting_in parts catalog) (state_in parts catalog) c.args.patch in
    let same = same_objects parts catalog c.args.patch c.requires in
    let pre = c.has_callbacks-pre.ensures ∙ ap (λ os. are_some (calls_of c.args.patch Pre os)) same in
    let post_un = c.has_callbacks-post_un.ensures ∙ ap (λ os. are_some (calls_of c.args.patch PostUn os)) same in
    let both : (c.has_callbacks-pre.result || c.has_callbacks-post_un.result)
    ≡ (are_some (calls_of c.args.patch Pre objects) || are_some (calls_of c.args.patch PostUn objects)) =
    λ i. pre i || post_un i
    in
    both ∙ sym (some-append (calls_of c.args.patch Pre objects) (calls_of c.args.patch PostUn objects))
