use Rattle.std.proofs.Common.{ap, ◌∙◌}
use Rattle.klp_types.specs.Script.{Script, alloc_count}
use Rattle.klp_callback.proofs.EditLemmas.{counted_is}
use Rattle.klp_callback.proofs.edits.allocs_of.Goals as goal

pub returns-clause-value : goal.returns-clause-value
returns-clause-value c = counted_is _ _ _ c.count_allocs.ensures c.deref.ensures.0 ∙ ap (λ (s : Script). alloc_count s.edits) c.script.view_is
