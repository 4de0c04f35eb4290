use Rattle.std.proofs.Common.{subst}
use Rattle.klp_markup.specs.Adds.{Adds}
use Rattle.klp_markup.specs.Tasks.{tasks_text}
use Rattle.klp_story.proofs.end.add_sleepers.Goals as goal

pub returns : goal.returns
returns g c =
    let add = c.what_is_added_adds_up.ensures.adds_up in
    add _ _ _ _ _
    (add _ _ _ _ _
    (add _ _ _ _ _
    (add _ _ _ _ _
    (add _ _ _ _ _
    (add _ _ _ _ _ c.markup.ensures (subst (λ tasks. Adds c.markup.new.self c.add_tasks.new.sheet (tasks_text c.args.names.now tasks)) c.as_slice-tasks.ensures c.add_tasks.ensures))
    c.markup-2.ensures)
    c.add_link.ensures)
    c.add_line_time.ensures)
    c.markup-3.ensures)
    c.add_reason.ensures
