use Rattle.std.proofs.Common.{◌≡◌, Bool, List, map, subst, rules, tests, Decides}
use Rattle.std.proofs.lemmas.List.{map-id}
use Rattle.std.proofs.lemmas.Iterator.{YieldsList-from_slice, YieldsList-from_zip, cases_from_all}
use Rattle.klp_module_catalog.proofs.SameLemmas.{alike, AreAlike, Differ}
use Rattle.klp_module_catalog.proofs.marks.are_same.Goals as goal

pub returns-then-one-other : goal.returns-then-one-other
returns-then-one-other c =
    let itself = λ (b : Bool). b in
    let chain = YieldsList-from_zip (YieldsList-from_slice c.args.one.now cc) (YieldsList-from_slice c.args.other.now cc) in
    let cases = cases_from_all c.all.new.self _ c.all.result (AreAlike itself itself) (Differ itself itself) c.all.ensures.ran chain
    (λ x q k. search (rules, tests)) (λ x q k. search (rules, tests)) in
    let same = alike itself itself c.args.one.now c.args.other.now c.all.result (search rules) cases in
    subst (λ (all : List Bool). Decides c.all.result (c.args.one.now ≡ all)) (map-id c.args.other.now)
    (subst (λ (all : List Bool). Decides c.all.result (all ≡ map itself c.args.other.now)) (map-id c.args.one.now) same)
