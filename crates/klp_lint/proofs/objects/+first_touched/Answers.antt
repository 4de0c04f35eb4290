use Rattle.std.proofs.Common.{◌∙◌}
use Rattle.klp_lint.proofs.ApartLemmas.{touched_behind}
use Rattle.klp_lint.proofs.objects.+first_touched.Goals as goal

pub returns-in-None : goal.returns-in-None
returns-in-None t c =
    touched_behind c.args.edits.now c.deref.result.now _ _ _ c.first_touched.result c.in_ok-next.ensures.0
    (c.deref.ensures.0 ∙ c.edits_of.ensures) c.in-None.ensures c.first_touched.ensures
