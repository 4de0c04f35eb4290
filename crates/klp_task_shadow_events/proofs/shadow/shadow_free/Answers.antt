use Rattle.std.proofs.Common.{rules}
use Rattle.klp_task_shadow_events.proofs.LoggedLemmas.{world_logged}
use Rattle.klp_task_shadow_events.proofs.shadow.shadow_free.Goals as goal

pub returns-clause-taken : goal.returns-clause-taken
returns-clause-taken g c = search rules

pub returns-clause-logged : goal.returns-clause-logged
returns-clause-logged g c =
    world_logged c.what_is_logged_gives_the_rows_back.ensures.world c.args.state.now c.free-was_there.new.self _ c.clear.new.self c.free-was_there.new.log _ _
    (c.what_is_logged_is_of_the_world.ensures.free c.args.state.now.world c.args.key) c.clear.ensures c.free-was_there.ensures.changes
