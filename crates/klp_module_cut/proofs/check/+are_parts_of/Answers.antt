use Rattle.klp_module_cut.proofs.EndLemmas.{more_parts}
use Rattle.klp_module_cut.proofs.check.+are_parts_of.Goals as goal

pub returns-in_default : goal.returns-in_default
returns-in_default t c = more_parts c.args.others.now c.args.parts.now c.args.wholes.now c.in-empty.len_below c.in_default.len_at_least
