use Rattle.std.proofs.Common.{List, length, sym, ap, subst, ◌∙◌, arith}
use Rattle.klp_modules.specs.Names.{ModuleTable, ObjectNames}
use Rattle.klp_catalog_text.specs.Scripts.{scripts_of}
use Rattle.klp_catalog.specs.Catalog.{some_same_site}
use Rattle.klp_catalog.specs.Assembled.{lent_scripts, lent_counts}
use Rattle.klp_catalog.specs.Stored.{IsStored, stored_patches}
use Rattle.klp_catalog.proofs.AssembleLemmas.{stored_for, stored_again}
use Rattle.klp_catalog.proofs.catalog.Catalog.assemble.Goals as goal

pub invariant_of-result : goal.invariant_of-result
invariant_of-result g c =
    let names = c.args.modules.now.names in
    let stored = c.in_ok-patches.patches.items in
    let given = c.into_patches.ensures.patches in
    subst (λ (n : List ObjectNames). IsStored n c.in_ok-symbols.symbols.items stored (lent_scripts c.args.callbacks.items) (lent_counts c.args.callbacks.items))
    (sym (ap (λ (t : ModuleTable). t.names) c.of-over.ensures))
    (stored_for names c.in_ok-symbols.symbols.items stored c.args.callbacks.items c.args.plan.patches
    c.in_ok-symbols.ensures
    (c.in_ok-patches.ensures.patches ∙ ap (stored_patches names 0) given)
    (omega (arith, c.in_ok-patches.ensures.number, c.len.ensures, ap (λ ps. length (scripts_of ps)) given))
    c.into_patches.ensures.few
    (ap (some_same_site names) (sym given) ∙ c.in_ok-patches.ensures.apart))

pub returns-clause-patches : goal.returns-clause-patches
returns-clause-patches g c =
    (stored_again c.args.modules.now.names c.in_ok-patches.patches.items c.args.callbacks.items c.args.plan.patches
    (c.in_ok-patches.ensures.patches ∙ ap (stored_patches c.args.modules.now.names 0) c.into_patches.ensures.patches)
    (omega (arith, c.in_ok-patches.ensures.number, c.len.ensures, ap (λ ps. length (scripts_of ps)) c.into_patches.ensures.patches))
    c.into_patches.ensures.few).patches

pub returns-clause-scripts : goal.returns-clause-scripts
returns-clause-scripts g c =
    (stored_again c.args.modules.now.names c.in_ok-patches.patches.items c.args.callbacks.items c.args.plan.patches
    (c.in_ok-patches.ensures.patches ∙ ap (stored_patches c.args.modules.now.names 0) c.into_patches.ensures.patches)
    (omega (arith, c.in_ok-patches.ensures.number, c.len.ensures, ap (λ ps. length (scripts_of ps)) c.into_patches.ensures.patches))
    c.into_patches.ensures.few).scripts

pub returns-clause-shape : goal.returns-clause-shape
returns-clause-shape g c =
    (stored_again c.args.modules.now.names c.in_ok-patches.patches.items c.args.callbacks.items c.args.plan.patches
    (c.in_ok-patches.ensures.patches ∙ ap (stored_patches c.args.modules.now.names 0) c.into_patches.ensures.patches)
    (omega (arith, c.in_ok-patches.ensures.number, c.len.ensures, ap (λ ps. length (scripts_of ps)) c.into_patches.ensures.patches))
    c.into_patches.ensures.few).shape

pub returns-clause-limits : goal.returns-clause-limits
returns-clause-limits g c =
    (stored_again c.args.modules.now.names c.in_ok-patches.patches.items c.args.callbacks.items c.args.plan.patches
    (c.in_ok-patches.ensures.patches ∙ ap (stored_patches c.args.modules.now.names 0) c.into_patches.ensures.patches)
    (omega (arith, c.in_ok-patches.ensures.number, c.len.ensures, ap (λ ps. length (scripts_of ps)) c.into_patches.ensures.patches))
    c.into_patches.ensures.few).limits
