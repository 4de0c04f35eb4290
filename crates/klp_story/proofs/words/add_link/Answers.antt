use Rattle.klp_story.specs.Words.{link_text}
use Rattle.klp_story.proofs.words.add_link.Goals as goal

pub returns : goal.returns
unfolding link_text
returns c =
    let add = c.what_is_added_adds_up.ensures.adds_up in
    add _ _ _ _ _
    (add _ _ _ _ _
    (add _ _ _ _ _ c.add_number.ensures c.markup.ensures)
    c.number.ensures)
    c.markup-2.ensures
