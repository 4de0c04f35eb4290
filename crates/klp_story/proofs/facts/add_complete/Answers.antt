use Rattle.std.proofs.Common.{ℕ, List, ◌++◌, subst}
use Rattle.klp_markup.specs.Adds.{Adds}
use Rattle.klp_story.specs.Words.{quoted_text}
use Rattle.klp_story.proofs.facts.add_complete.Goals as goal

pub returns : goal.returns
returns g c =
    let add = c.what_is_added_adds_up.ensures.adds_up in
    let said = λ (what : List ℕ). Adds c.args.sheet.now c.add_of_patch.new.sheet (quoted_text c.args.catalog.now c.args.moved.now.patch ++ what) in
    add _ _ _ _ _ (subst said c.completing.ensures c.add_of_patch.ensures) c.add_meaning.ensures
