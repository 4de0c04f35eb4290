use Rattle.std.proofs.Common.{sym, ◌∙◌}
use Rattle.klp_module_symbols.proofs.RowLemmas.{any_map}
use Rattle.klp_module_matrix.specs.Changes.{meaning}
use Rattle.klp_module_symbols.specs.Symbols.{is_same_name}
use Rattle.klp_module_symbols.proofs.uses.has_use.Goals as goal

pub returns : goal.returns
returns c = c.is_among.ensures ∙ sym (any_map (is_same_name (meaning c.args.symbol.now)) meaning c.args.uses.now)
