use Rattle.std.proofs.Common.{subst, ◌∙◌}
use Rattle.klp_markup.specs.Adds.{Adds}
use Rattle.std.specs.Fmt.{decimal}
use Rattle.klp_story.specs.Sentences.{anchor_text}
use Rattle.klp_story.proofs.sleepers.add_anchor.Goals as goal

pub returns : goal.returns
unfolding anchor_text
returns c =
    let add = c.what_is_added_adds_up.ensures.adds_up in
    add _ _ _ _ _
    (add _ _ _ _ _ c.add_number.ensures (subst (λ n. Adds c.add_number.new.sheet c.number.new.self (decimal n)) (c.from.ensures ∙ c.task.view_is) c.number.ensures))
    c.markup.ensures
