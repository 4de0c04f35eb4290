use Rattle.klp_lint.proofs.ApartLemmas.{found_later}
use Rattle.klp_lint.proofs.edits.+common_to.Goals as goal

pub returns-in-None : goal.returns-in-None
returns-in-None t c =
    found_later c.args.edits.now c.args.others.now c.edit-item.result c.common_to.result c.in-len1-up.len_at_least c.edit-item.is c.in-None.ensures c.common_to.ensures
