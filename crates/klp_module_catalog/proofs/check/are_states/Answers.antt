use Rattle.std.proofs.Common.{◌≡◌, List, map, subst, rules, tests, Decides}
use Rattle.std.proofs.lemmas.List.{map-id}
use Rattle.std.proofs.lemmas.Iterator.{YieldsList-from_slice, YieldsList-from_zip, cases_from_all}
use Rattle.klp_types.specs.Compatible.{SystemState}
use Rattle.klp_module_catalog.specs.Said.{row_state}
use Rattle.klp_module_catalog.proofs.SameLemmas.{alike, AreAlike, Differ}
use Rattle.klp_module_catalog.proofs.check.are_states.Goals as goal

pub returns-then-plan-states : goal.returns-then-plan-states
returns-then-plan-states c =
    let itself = λ (s : SystemState). s in
    let chain = YieldsList-from_zip (YieldsList-from_slice c.args.plan.now cc) (YieldsList-from_slice c.args.states.now cc) in
    let cases = cases_from_all c.all.new.self _ c.all.result (AreAlike itself row_state) (Differ itself row_state) c.all.ensures.ran chain
    (λ x q k. search (rules, tests)) (λ x q k. search (rules, tests)) in
    let same = alike itself row_state c.args.plan.now c.args.states.now c.all.result (search rules) cases in
    subst (λ (all : List SystemState). Decides c.all.result (all ≡ map row_state c.args.states.now)) (map-id c.args.plan.now) same
