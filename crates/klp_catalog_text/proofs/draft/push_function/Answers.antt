use Rattle.std.proofs.Common.{◌-◌, arith}
use Rattle.klp_catalog_text.specs.PlanParts.{with_function_in}
use Rattle.klp_catalog_text.proofs.ListLemmas.{set_last, on_ok}
use Rattle.klp_catalog_text.proofs.DraftLemmas.{last_patch}
use Rattle.klp_catalog_text.proofs.draft.push_function.Goals as goal

pub returns-clause-ok : goal.returns-clause-ok
returns-clause-ok c =
    on_ok c.push_function.result c.push_function.ensures.ok
    (λ e. set_last (with_function_in c.args.function) c.args.patches.now.items (c.len-last.result - 1) c.index_mut.result.now _
    (omega (arith, last_patch c.args.patches.now.items c.requires)) c.index_mut.ensures.value e)
