use Rattle.klp_model.specs.declared.event.Reply.TheVariants.{Freed}
use Rattle.klp_task_shadow_events.proofs.LoggedLemmas.{world_logged}
use Rattle.klp_task_shadow_events.proofs.shadow.shadow_free_all.Goals as goal

pub returns-clause-logged : goal.returns-clause-logged
returns-clause-logged g c =
    world_logged c.what_is_logged_gives_the_rows_back.ensures.world c.args.state.now c.free_all-freed.new.self _ c.clear.new.self c.free_all-freed.new.log _ (Freed c.free_all-freed.result)
    (c.what_is_logged_is_of_the_world.ensures.free_all c.args.state.now.world c.args.id) c.clear.ensures c.free_all-freed.ensures.changes
