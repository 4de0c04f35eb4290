use Rattle.std.proofs.Common.{◌-◌, Some, arith}
use Rattle.klp_catalog_text.specs.PlanParts.{with_target}
use Rattle.klp_catalog_text.proofs.ListLemmas.{set_last, on_ok}
use Rattle.klp_catalog_text.proofs.draft.push_target.Goals as goal

pub returns-clause-ok : goal.returns-clause-ok
returns-clause-ok c =
    on_ok c.push_target.result c.push_target.ensures.ok
    (λ e. set_last (with_target (Some c.args.object)) c.args.patches.now.items (c.len-last.result - 1) c.index_mut.result.now _ (omega arith) c.index_mut.ensures.value e)
