use Rattle.std.proofs.Common.{length, ap, sym, ◌∙◌, arith}
use Rattle.std.specs.Bool.{◌==◌}
use Rattle.std.specs.List.{list_any}
use Rattle.klp_catalog_text.specs.Draft.{names_of, number_of}
use Rattle.klp_catalog_text.specs.Plan.{PlanTarget}
use Rattle.klp_catalog_text.specs.PlanParts.{last_of, targets_of}
use Rattle.klp_catalog_text.proofs.DraftLemmas.{kept-target, found_within}
use Rattle.klp_catalog_text.proofs.ListLemmas.{positive}
use Rattle.klp_catalog_text.proofs.draft.Draft.place_target.Goals as goal

pub invariant_of-self-2 : goal.invariant_of-self-2
invariant_of-self-2 c =
    let some = positive _ c.if-is_empty.ensures in
    let same = ap length c.open_targets-targets.ensures in
    let plain = ap (λ patches. length (targets_of (last_of patches))) c.deref-2.ensures.value in
    let there = found_within c.self.inside.objects.items _ c.in-Some.number (sym (c.in-Some.ensures ∙ ap (λ objects. number_of c.args.name.now (names_of objects)) c.deref.ensures.value)) in
    let targets = ap (λ patches. targets_of (last_of patches)) c.deref-2.ensures.value in
    let fresh = ap (list_any (λ (t : PlanTarget). t.object == c.in-Some.number)) (sym (c.open_targets-targets.ensures ∙ targets)) ∙ sym c.if-has_target.ensures in
    kept-target c.self.invariant c.in-Some.number c.push_target.new.patches.items there (omega arith) fresh (omega (arith, same, plain)) c.in_ok-push_target.ensures.ok
