use Rattle.std.proofs.Common.{rules, tests}
use Rattle.std.proofs.lemmas.Iterator.{YieldsList-from_slice, YieldsList-from_zip, cases_from_all}
use Rattle.klp_module_catalog.specs.Said.{said_target, row_target}
use Rattle.klp_module_catalog.proofs.SameLemmas.{alike, AreAlike, Differ}
use Rattle.klp_module_catalog.proofs.check.are_targets.Goals as goal

pub returns-then-targets-rows : goal.returns-then-targets-rows
returns-then-targets-rows c =
    let said = said_target c.args.objects.now in
    let chain = YieldsList-from_zip (YieldsList-from_slice c.args.targets.now cc) (YieldsList-from_slice c.args.rows.now cc) in
    let cases = cases_from_all c.all.new.self _ c.all.result (AreAlike said row_target) (Differ said row_target) c.all.ensures.ran chain
    (λ x q k. search (rules, tests)) (λ x q k. search (rules, tests)) in
    alike said row_target c.args.targets.now c.args.rows.now c.all.result (search rules) cases
