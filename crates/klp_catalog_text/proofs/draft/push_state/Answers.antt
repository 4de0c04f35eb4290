use Rattle.std.proofs.Common.{◌-◌, arith}
use Rattle.klp_catalog_text.specs.PlanParts.{with_state}
use Rattle.klp_catalog_text.proofs.ListLemmas.{set_last, on_ok}
use Rattle.klp_catalog_text.proofs.draft.push_state.Goals as goal

pub returns-clause-ok : goal.returns-clause-ok
returns-clause-ok c =
    on_ok c.push_state.result c.push_state.ensures.ok
    (λ e. set_last (with_state c.args.state) c.args.patches.now.items (c.len-last.result - 1) c.index_mut.result.now _ (omega arith) c.index_mut.ensures.value e)
