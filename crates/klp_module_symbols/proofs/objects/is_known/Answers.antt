use Rattle.std.proofs.Common.{bytes_eq, sym, ◌∙◌}
use Rattle.klp_module_symbols.proofs.RowLemmas.{any_map}
use Rattle.klp_module_symbols.specs.Kernel.{RowFacts, row_meaning}
use Rattle.klp_module_symbols.proofs.objects.is_known.Goals as goal

pub returns : goal.returns
returns c = c.has_object.ensures ∙ sym (any_map (λ (r : RowFacts). bytes_eq r.object c.args.object.now) row_meaning c.args.rows.now)
