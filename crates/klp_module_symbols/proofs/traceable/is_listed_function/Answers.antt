use Rattle.std.proofs.Common.{sym, ◌∙◌}
use Rattle.klp_module_matrix.specs.Changes.{meaning}
use Rattle.klp_module_symbols.proofs.RowLemmas.{any_map}
use Rattle.klp_module_symbols.specs.Traceable.{is_of_change, traceable_meaning}
use Rattle.klp_module_symbols.proofs.traceable.is_listed_function.Goals as goal

pub returns : goal.returns
returns c = c.has_row.ensures ∙ sym (any_map (is_of_change (meaning c.args.change.now)) traceable_meaning c.args.rows.now)
