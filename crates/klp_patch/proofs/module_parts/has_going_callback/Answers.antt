use Rattle.std.proofs.Common.{◌≡◌, sym, ap, ◌∙◌}
use Rattle.std.specs.Prelude.{◌||◌}
use Rattle.std.specs.List.{flat_map}
use Rattle.klp_types.specs.declared.callback.Which.TheVariants.{PreUn, PostUn}
use Rattle.klp_model.specs.EventCalls.{going_may_run}
use Rattle.klp_catalog.specs.Runs.{script_at}
use Rattle.klp_patch.specs.Calls.{are_some}
use Rattle.klp_patch.specs.Places.{call_at, call_unless_moving}
use Rattle.klp_patch.proofs.ModulePartLemmas.{no_part, one_part, may_go}
use Rattle.klp_patch.proofs.SomeLemmas.{some-append, some-call}
use Rattle.klp_patch.proofs.module_parts.has_going_callback.Goals as goal

pub returns-in-Some : goal.returns-in-Some
returns-in-Some g c =
    let place = c.in-Some.place in
    let calls = may_go c.args.catalog.now c.args.object c.args.patch place
    (one_part c.args.catalog.now c.args.object c.args.patch c.place.ensures.once place c.in-Some.ensures.place) c.args.moving.now
    in
    let post_un = c.has_callback-goes.ensures ∙ some-call c.args.patch place PostUn (script_at c.args.catalog.now c.args.patch place PostUn) in
    let each : (c.has_callback-goes.result || c.has_unless_moving-leaves.result)
    ≡ (are_some (call_at c.args.catalog.now c.args.patch place PostUn) || are_some (call_unless_moving c.args.moving.now c.args.catalog.now c.args.patch place PreUn)) =
    λ i. post_un i || c.has_unless_moving-leaves.ensures i
    in
    each
    ∙ sym (ap are_some calls
    ∙ some-append (call_at c.args.catalog.now c.args.patch place PostUn) (call_unless_moving c.args.moving.now c.args.catalog.now c.args.patch place PreUn))

pub returns-in-None : goal.returns-in-None
returns-in-None g c =
    sym (ap (λ parts. are_some (flat_map (going_may_run c.args.moving.now) parts)) (no_part c.args.catalog.now c.args.object c.args.patch c.place.ensures.once c.in-None.ensures.place))
