use Rattle.std.proofs.Common.{ap, subst, w64}
use Rattle.std.proofs.lemmas.Int.{to_z-of_z}
use Rattle.std.specs.Fmt.{signed_decimal}
use Rattle.klp_markup.specs.Adds.{Adds}
use Rattle.klp_story.proofs.facts.add_pre_failed.Goals as goal

pub returns : goal.returns
returns g c =
    let add = c.what_is_added_adds_up.ensures.adds_up in
    -- the status that is written is the one that was passed
    let status = to_z-of_z w64 c.args.status c.ranges.status in
    add _ _ _ _ _
    (add _ _ _ _ _
    (add _ _ _ _ _
    (add _ _ _ _ _ c.add_of_patch.ensures c.name.ensures)
    c.markup.ensures)
    (subst (Adds _ _) (ap signed_decimal status) c.integer.ensures))
    c.markup-2.ensures
