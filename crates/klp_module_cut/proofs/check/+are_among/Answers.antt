use Rattle.klp_module_cut.proofs.EndLemmas.{more_functions}
use Rattle.klp_module_cut.proofs.check.+are_among.Goals as goal

pub returns-in_default : goal.returns-in_default
returns-in_default t c =
    more_functions c.args.others.now c.args.row.now c.args.kept.now c.args.all.now c.in-empty.len_below c.in_default.len_at_least
