use Rattle.klp_story.proofs.end.add_end.Goals as goal

pub returns : goal.returns
returns g c =
    let add = c.what_is_added_adds_up.ensures.adds_up in
    add _ _ _ _ _
    (add _ _ _ _ _
    (add _ _ _ _ _
    (add _ _ _ _ _ c.add_first.ensures c.markup.ensures)
    c.add_all_sleepers.ensures)
    c.add_all_lagging.ensures)
    c.markup-2.ensures
