use Rattle.std.proofs.Common.{length, ap, arith}
use Rattle.klp_catalog_text.specs.PlanParts.{last_of, targets_of}
use Rattle.klp_catalog_text.proofs.DraftLemmas.{kept-function}
use Rattle.klp_catalog_text.proofs.ListLemmas.{positive}
use Rattle.klp_catalog_text.proofs.draft.Draft.place_function.Goals as goal

pub invariant_of-self-2 : goal.invariant_of-self-2
invariant_of-self-2 c =
    let some = positive _ c.if-is_empty.ensures in
    let same = ap length c.open_targets.ensures in
    let plain = ap (λ patches. length (targets_of (last_of patches))) c.deref.ensures.value in
    kept-function c.self.invariant c.args.function c.push_function.new.patches.items (omega (arith, same, plain)) (omega arith) c.in_ok-push_function.ensures.ok
