use Rattle.klp_story.proofs.transition.add_no_transition.Goals as goal

pub returns : goal.returns
returns g c =
    let add = c.what_is_added_adds_up.ensures.adds_up in
    add _ _ _ _ _ c.markup.ensures c.add_enabled.ensures
