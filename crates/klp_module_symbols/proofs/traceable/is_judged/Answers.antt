use Rattle.std.proofs.Common.{bytes_eq, sym, ◌∙◌}
use Rattle.klp_module_symbols.proofs.RowLemmas.{any_map}
use Rattle.klp_module_symbols.specs.Traceable.{TraceableFacts, traceable_meaning}
use Rattle.klp_module_symbols.proofs.traceable.is_judged.Goals as goal

pub returns : goal.returns
returns c = c.has_object.ensures ∙ sym (any_map (λ (r : TraceableFacts). bytes_eq r.object c.args.object.now) traceable_meaning c.args.rows.now)
