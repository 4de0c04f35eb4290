use Rattle.std.proofs.Common.{sym, ◌∙◌, refl}
use Rattle.klp_types.specs.World.{variable}
use Rattle.klp_model.specs.declared.event.Event.TheVariants.{ShadowGetOrAlloc}
use Rattle.klp_model.specs.declared.event.Reply.TheVariants.{Value}
use Rattle.klp_task_shadow_events.proofs.ShadowLemmas.{alloc_taken}
use Rattle.klp_task_shadow_events.proofs.TakenLemmas.{refused_taken}
use Rattle.klp_task_shadow_events.proofs.LoggedLemmas.{world_logged}
use Rattle.klp_task_shadow_events.proofs.shadow.shadow_get_or_alloc.Goals as goal

pub returns-in-Some-clause-taken : goal.returns-in-Some-clause-taken
returns-in-Some-clause-taken g c =
    refused_taken c.steps_keep.ensures c.args.state.now c.args.catalog.now (ShadowGetOrAlloc c.args.key c.args.value) c.in-Some.refusal c.requires
    (sym c.in-Some.is ∙ c.shadow_get_or_alloc_refusal.ensures.refusal c.args.catalog.now c.args.value)

pub returns-clause-taken : goal.returns-clause-taken
returns-clause-taken g c =
    let free = sym c.in_default.is ∙ c.shadow_get_or_alloc_refusal.ensures.refusal c.args.catalog.now c.args.value in
    alloc_taken c.changes_of_one_kind_are_taken.ensures.world c.steps_keep.ensures c.args.state.now c.args.catalog.now c.get_or_alloc-there.new.self c.clear.new.self c.get_or_alloc-there.new.log _
    c.args.key c.args.value (variable c.args.state.now.world c.args.key) (ShadowGetOrAlloc c.args.key c.args.value) (Value c.get_or_alloc-there.result) c.requires free refl
    (rw c.get_or_alloc-there.ensures.answer refl)
    c.clear.ensures c.get_or_alloc-there.ensures.changes

pub returns-clause-logged : goal.returns-clause-logged
returns-clause-logged g c =
    world_logged c.what_is_logged_gives_the_rows_back.ensures.world c.args.state.now c.get_or_alloc-there.new.self _ c.clear.new.self c.get_or_alloc-there.new.log _ (Value c.get_or_alloc-there.result)
    (c.what_is_logged_is_of_the_world.ensures.alloc c.args.state.now.world c.args.key) c.clear.ensures c.get_or_alloc-there.ensures.changes
