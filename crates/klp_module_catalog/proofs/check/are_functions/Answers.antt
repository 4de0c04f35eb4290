use Rattle.std.proofs.Common.{rules, tests}
use Rattle.std.proofs.lemmas.Iterator.{YieldsList-from_slice, YieldsList-from_zip, cases_from_all}
use Rattle.klp_module_catalog.specs.Said.{said_function, row_function}
use Rattle.klp_module_catalog.proofs.SameLemmas.{alike, AreAlike, Differ}
use Rattle.klp_module_catalog.proofs.check.are_functions.Goals as goal

pub returns-then-plan-functions : goal.returns-then-plan-functions
returns-then-plan-functions c =
    let chain = YieldsList-from_zip (YieldsList-from_slice c.args.plan.now cc) (YieldsList-from_slice c.args.functions.now cc) in
    let cases = cases_from_all c.all.new.self _ c.all.result (AreAlike said_function row_function) (Differ said_function row_function) c.all.ensures.ran chain
    (λ x q k. search (rules, tests)) (λ x q k. search (rules, tests)) in
    alike said_function row_function c.args.plan.now c.args.functions.now c.all.result (search rules) cases
