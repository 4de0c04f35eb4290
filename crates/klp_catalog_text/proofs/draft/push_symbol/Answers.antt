use Rattle.std.proofs.Common.{◌-◌, refl, arith}
use Rattle.klp_catalog_text.specs.PlanParts.{with_symbol}
use Rattle.klp_catalog_text.proofs.ListLemmas.{set_last}
use Rattle.klp_catalog_text.proofs.draft.push_symbol.Goals as goal

pub returns-clause-ok : goal.returns-clause-ok
returns-clause-ok c =
    set_last (with_symbol c.args.symbol) c.args.objects.now.items (c.len-last.result - 1) c.index_mut-object.result.now _ (omega arith) c.index_mut-object.ensures.value
    (rw (c.in_ok-push.ensures.items, ← c.object.view_is) refl)
