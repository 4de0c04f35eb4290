use Rattle.std.proofs.Common.{sym, ◌∙◌}
use Rattle.klp_module_symbols.proofs.RowLemmas.{all_map}
use Rattle.klp_module_symbols.specs.Kernel.{RowFacts, is_zero, row_meaning}
use Rattle.klp_module_symbols.proofs.rows.have_zero.Goals as goal

pub returns : goal.returns
returns c = c.are_zero.ensures ∙ sym (all_map (λ (r : RowFacts). is_zero r.address) row_meaning c.args.rows.now)
