use Rattle.std.proofs.Common.{◌≡◌, ◌&&◌, ℕ, List, length, map, refl, sym, ap, ◌∙◌, arith}
use Rattle.std.specs.Prelude.{cond}
use Rattle.std.specs.Option.{is_some}
use Rattle.klp_types.specs.declared.version.Entry.{Entry}
use Rattle.klp_types.specs.Setting.{Function, all_functions, function_for}
use Rattle.klp_catalog.specs.Catalog.{setting_function}
use Rattle.klp_catalog.specs.States.{is_cumulative}
use Rattle.klp_stack.specs.Stack.{entries_at, entries_of_others}
use Rattle.klp_patch.specs.Covered.{is_covered, functions_in}
use Rattle.klp_patch.proofs.MadeLemmas.{made_also}
use Rattle.klp_patch.proofs.PatchLemmas.{only_functions, none_left}
use Rattle.klp_patch.proofs.entries.unpatch_sites.Goals as goal

pub take_functions-requires-clause-few : goal.take_functions-requires-clause-few
take_functions-requires-clause-few g c =
    let same = ap length (c.functions.ensures ∙ c.in-Some.ensures.found.functions) in
    omega (arith, same, c.in-Some.ensures.keeps.few_functions)

pub returns-in_default-clause-entries : goal.returns-in_default-clause-entries
returns-in_default-clause-entries g c =
    let before = c.args.sites.now in
    let catalog = c.args.catalog.now in
    let patch = c.args.patch in
    record {
      image = refl;
      loaded = refl;
      entries = λ site. none_left (is_covered before c.args.only site) patch (function_for (functions_in catalog patch) site) (is_cumulative catalog patch) (entries_at before.stacks site)
          (ap (λ os. function_for (all_functions os) site) c.in_default.ensures.found.objects) c.in_default.ensures.found.replaces (c.requires.own site);
    }

pub returns-else-is_cumulative-clause-entries : goal.returns-else-is_cumulative-clause-entries
returns-else-is_cumulative-clause-entries g c =
    let before = c.args.sites.now in
    let catalog = c.args.catalog.now in
    let patch = c.args.patch in
    let covers = is_covered before c.args.only in
    let make : ℕ → List Entry → List Entry = λ site entries. entries_of_others patch entries in
    let listed : map setting_function c.functions.result.now ≡ functions_in catalog patch =
    ap (map setting_function) (c.functions.ensures ∙ c.in-Some.ensures.found.functions) ∙ c.in-Some.ensures.keeps.setting in
    made_also before c.take_functions.new.sites (λ site. covers site && is_some (function_for (map setting_function c.functions.result.now) site)) covers make make c.take_functions.ensures.entries
    (λ site. ap (λ (fs : List Function). cond (covers site && is_some (function_for fs site)) (entries_of_others patch (entries_at before.stacks site)) (entries_at before.stacks site)) listed
    ∙ only_functions (covers site) patch (function_for (functions_in catalog patch) site) (is_cumulative catalog patch) (entries_at before.stacks site)
    (sym c.in-Some.ensures.found.replaces ∙ sym c.is_cumulative.ensures ∙ c.if-is_cumulative.false) (c.requires.own site))
