use Rattle.std.proofs.Common.{arith}
use Rattle.klp_catalog_text.proofs.DraftLemmas.{kept-symbol}
use Rattle.klp_catalog_text.proofs.ListLemmas.{positive}
use Rattle.klp_catalog_text.proofs.draft.Draft.place_symbol.Goals as goal

pub invariant_of-self-2 : goal.invariant_of-self-2
invariant_of-self-2 c =
    let some = positive _ c.if-is_empty.ensures in
    kept-symbol c.self.invariant c.args.symbol c.push_symbol.new.objects.items (omega arith) c.in_ok-push_symbol.ensures.ok
