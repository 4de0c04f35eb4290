use Rattle.std.proofs.Common.{subst}
use Rattle.klp_markup.specs.Adds.{Adds}
use Rattle.klp_story.specs.End.{state_text, outdated_text}
use Rattle.klp_story.specs.End.{first_text}
use Rattle.klp_story.proofs.end.add_first.Goals as goal

pub returns : goal.returns
unfolding first_text
returns g c =
    let add = c.what_is_added_adds_up.ensures.adds_up in
    add _ _ _ _ _
    (add _ _ _ _ _
    (add _ _ _ _ _
    (add _ _ _ _ _
    (add _ _ _ _ _ c.markup.ensures c.add_refused.ensures)
    c.markup-2.ensures)
    (subst (λ course. Adds c.markup-2.new.self c.add_state.new.sheet (state_text c.args.names.now c.args.catalog.now c.args.view.now course c.args.view.now.moving)) c.latest_course-course.ensures c.add_state.ensures))
    (subst (λ count. Adds c.add_state.new.sheet c.add_outdated.new.sheet (outdated_text count)) c.outdated-sleepers.ensures c.add_outdated.ensures))
    c.markup-3.ensures
