use Rattle.std.proofs.Common.{None, refl}
use Rattle.klp_model.specs.declared.event.Event.TheVariants.{ShadowAlloc}
use Rattle.klp_model.specs.declared.event.Reply.TheVariants.{Done}
use Rattle.klp_task_shadow_events.proofs.ShadowLemmas.{nothing_refuses, alloc_taken}
use Rattle.klp_task_shadow_events.proofs.LoggedLemmas.{emptied, world_logged}
use Rattle.klp_task_shadow_events.proofs.shadow.shadow_alloc.Goals as goal

pub returns-in-None-clause-taken : goal.returns-in-None-clause-taken
returns-in-None-clause-taken g c =
    alloc_taken c.changes_of_one_kind_are_taken.ensures.world c.steps_keep.ensures c.args.state.now c.args.catalog.now c.alloc_alone.new.self (emptied c.args.state.now.log) c.alloc_alone.new.log _
    c.args.key c.args.value.now None (ShadowAlloc c.args.key c.args.value.now) Done c.requires (nothing_refuses _ _ c.in-None.ensures.against) refl refl refl c.in-None.ensures.changes

pub returns-in-None-clause-logged : goal.returns-in-None-clause-logged
returns-in-None-clause-logged g c =
    world_logged c.what_is_logged_gives_the_rows_back.ensures.world c.args.state.now c.alloc_alone.new.self _ (emptied c.args.state.now.log) c.alloc_alone.new.log _ Done
    (c.what_is_logged_is_of_the_world.ensures.alloc c.args.state.now.world c.args.key) refl c.in-None.ensures.changes
