use Rattle.std.proofs.Common.{◌≡◌, ◌≤◌, Result, [], length, refl, subst, arith, rules}
use Rattle.std.specs.Prelude.{IfOk}
use Rattle.klp_boot.specs.declared.fault.Fault.{Fault}
use Rattle.klp_lint_findings.specs.declared.findings.World.TheVariants.{Each}
use Rattle.klp_lint_worlds.specs.Worlds.{AssuresAll, AreAllTrue, AllListed}
use Rattle.klp_lint_worlds.proofs.WholeLemmas.{found_clean, found_so, found_listed}
use Rattle.klp_lint_worlds.proofs.judging.find_all.Goals as goal

pub returns-clause-clean : goal.returns-clause-clean
returns-clause-clean c =
    λ from clean.
    let used = c.in_ok-over_text.ensures in
    let linted = c.linted.result in
    let found = c.over_text.new.user.found in
    let came = subst
    (λ (done : Result Unit Fault). IfOk done (λ _. (found.linted ≡ linted)
    × (c.new.result.items ≡ [] → AreAllTrue used.over.booted linted.input.script c.in-Ok.modules found)
    × (Each ≡ Each → length linted.patches.now ≤ 256
    → AllListed used.over.booted linted.input.script c.in-Ok.modules (length linted.patches.now) found)
    × (length linted.patches.now ≤ 256
    → AssuresAll used.over.booted linted.input.script c.in-Ok.modules (length linted.patches.now) found)))
    c.in_ok-branch.was used.over.came_to in
    found_clean c.args.input c.args.plan.now linted c.in-Ok.modules used.plan used.over.booted found
    c.a_booted_manager_has_the_patches_of_its_plan.ensures c.linted.ensures.input c.linted.ensures.patches c.linted.ensures.marks
    (first_of (search rules, omega (arith, c.in-Ok.ensures, c.modules.ensures))) used.planned used.over.is_booted came.0 came.3 from clean

pub returns-clause-so : goal.returns-clause-so
returns-clause-so c =
    λ from.
    let used = c.in_ok-over_text.ensures in
    let linted = c.linted.result in
    let found = c.over_text.new.user.found in
    let came = subst
    (λ (done : Result Unit Fault). IfOk done (λ _. (found.linted ≡ linted)
    × (c.new.result.items ≡ [] → AreAllTrue used.over.booted linted.input.script c.in-Ok.modules found)
    × (Each ≡ Each → length linted.patches.now ≤ 256
    → AllListed used.over.booted linted.input.script c.in-Ok.modules (length linted.patches.now) found)
    × (length linted.patches.now ≤ 256
    → AssuresAll used.over.booted linted.input.script c.in-Ok.modules (length linted.patches.now) found)))
    c.in_ok-branch.was used.over.came_to in
    found_so c.args.input c.args.plan.now linted c.in-Ok.modules used.plan used.over.booted found
    c.a_booted_manager_has_the_patches_of_its_plan.ensures c.linted.ensures.input c.linted.ensures.patches
    (first_of (search rules, omega (arith, c.in-Ok.ensures, c.modules.ensures))) used.planned used.over.is_booted came.0 (came.1 c.new.ensures.items) from

pub returns-clause-listed : goal.returns-clause-listed
returns-clause-listed c =
    λ from.
    let used = c.in_ok-over_text.ensures in
    let linted = c.linted.result in
    let found = c.over_text.new.user.found in
    let came = subst
    (λ (done : Result Unit Fault). IfOk done (λ _. (found.linted ≡ linted)
    × (c.new.result.items ≡ [] → AreAllTrue used.over.booted linted.input.script c.in-Ok.modules found)
    × (Each ≡ Each → length linted.patches.now ≤ 256
    → AllListed used.over.booted linted.input.script c.in-Ok.modules (length linted.patches.now) found)
    × (length linted.patches.now ≤ 256
    → AssuresAll used.over.booted linted.input.script c.in-Ok.modules (length linted.patches.now) found)))
    c.in_ok-branch.was used.over.came_to in
    found_listed c.args.input c.args.plan.now linted c.in-Ok.modules used.plan used.over.booted found
    c.a_booted_manager_has_the_patches_of_its_plan.ensures c.linted.ensures.input c.linted.ensures.patches
    (first_of (search rules, omega (arith, c.in-Ok.ensures, c.modules.ensures))) used.planned used.over.is_booted came.0 (came.2 refl) from
