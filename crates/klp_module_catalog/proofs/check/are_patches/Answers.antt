use Rattle.std.proofs.Common.{rules, tests}
use Rattle.std.proofs.lemmas.Iterator.{YieldsList-from_slice, YieldsList-from_zip, cases_from_all}
use Rattle.klp_module_catalog.specs.Said.{said_patch, row_patch}
use Rattle.klp_module_catalog.proofs.SameLemmas.{alike, AreAlike, Differ}
use Rattle.klp_module_catalog.proofs.check.are_patches.Goals as goal

pub returns-then-plan-patches : goal.returns-then-plan-patches
returns-then-plan-patches c =
    let said = said_patch c.args.objects.now in
    let chain = YieldsList-from_zip (YieldsList-from_slice c.args.plan.now cc) (YieldsList-from_slice c.args.patches.now cc) in
    let cases = cases_from_all c.all.new.self _ c.all.result (AreAlike said row_patch) (Differ said row_patch) c.all.ensures.ran chain
    (λ x q k. search (rules, tests)) (λ x q k. search (rules, tests)) in
    alike said row_patch c.args.plan.now c.args.patches.now c.all.result (search rules) cases
