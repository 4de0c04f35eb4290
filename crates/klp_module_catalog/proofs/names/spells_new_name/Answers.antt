use Rattle.std.proofs.Common.{◌≡◌, ℕ, List, map, ap, ◌∙◌, sym, subst, rules, tests, Decides}
use Rattle.std.proofs.lemmas.List.{map-id}
use Rattle.std.proofs.lemmas.Iterator.{YieldsList-from_slice, YieldsList-from_zip, cases_from_all}
use Rattle.klp_module_catalog.specs.Said.{spelled_byte}
use Rattle.klp_module_catalog.proofs.SameLemmas.{alike, AreAlike, Differ, spelled_cut}
use Rattle.klp_module_catalog.proofs.names.spells_new_name.Goals as goal

pub returns-then-spelled-cut : goal.returns-then-spelled-cut
returns-then-spelled-cut c =
    let itself = λ (b : ℕ). b in
    let chain = YieldsList-from_zip (YieldsList-from_slice c.args.spelled.now cc) (YieldsList-from_slice c.cut_name-cut.result.now cc) in
    let cases = cases_from_all c.all.new.self _ c.all.result (AreAlike itself spelled_byte) (Differ itself spelled_byte) c.all.ensures.ran chain
    (λ x q k. search (rules, tests)) (λ x q k. search (rules, tests)) in
    let same = alike itself spelled_byte c.args.spelled.now c.cut_name-cut.result.now c.all.result (search rules) cases in
    let name = c.args.name.now in
    let to_name = ap (map spelled_byte) c.cut_name-cut.ensures ∙ sym (spelled_cut name (search rules)) in
    subst (λ (n : List ℕ). Decides c.all.result (c.args.spelled.now ≡ n)) to_name
    (subst (λ (all : List ℕ). Decides c.all.result (all ≡ map spelled_byte c.cut_name-cut.result.now)) (map-id c.args.spelled.now) same)
