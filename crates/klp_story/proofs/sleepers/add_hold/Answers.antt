use Rattle.std.proofs.Common.{subst}
use Rattle.klp_markup.specs.Adds.{Adds}
use Rattle.klp_story.proofs.sleepers.add_hold.Goals as goal

pub returns : goal.returns
returns g c =
    let add = c.what_is_added_adds_up.ensures.adds_up in
    add _ _ _ _ _
    (add _ _ _ _ _
    (add _ _ _ _ _
    (add _ _ _ _ _
    (add _ _ _ _ _
    (add _ _ _ _ _ c.markup.ensures c.add_patch.ensures)
    c.markup-2.ensures)
    c.add_version.ensures)
    c.markup-3.ensures)
    (subst (Adds _ _) c.why.ensures c.markup-4.ensures))
    c.markup-5.ensures
