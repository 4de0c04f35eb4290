use Rattle.std.proofs.Common.{◌≡◌, ◌+◌, ◌<◌, ◌&&◌, ℕ, List, Option, length, map, false, eqb, refl, ap, subst, sym, ◌∙◌, arith}
use Rattle.std.specs.Prelude.{cond}
use Rattle.std.specs.Option.{is_some}
use Rattle.klp_types.specs.declared.version.Entry.{Entry}
use Rattle.klp_types.specs.Setting.{function_for}
use Rattle.klp_text.specs.TextImage.{TextImage}
use Rattle.klp_stack.specs.Stack.{entries_at, entries_of_others}
use Rattle.klp_catalog.specs.Catalog.{setting_function}
use Rattle.klp_patch.specs.Covered.{is_in_scope, is_covered}
use Rattle.klp_patch.specs.Changes.{AreMade, Notes, hooked_count}
use Rattle.klp_patch.proofs.MadeLemmas.{made_both, made_also, notes_taken, notes_longer}
use Rattle.klp_patch.proofs.FunctionLemmas.{is_below, next_function}
use Rattle.klp_patch.proofs.OrderLemmas.{ends_within, left_behind, its_object, all_done}
use Rattle.klp_patch.proofs.ScopeLemmas.{in_scope_here, all_in_scope}
use Rattle.klp_patch.proofs.entries.take_functions.Goals as goal
use Rattle.klp_patch.proofs.entries.take_functions.Goals.{in-Some, in_default}

pub overflow_add-end : goal.overflow_add-end
overflow_add-end c = omega (arith, ends_within c.args.functions.now c.args.targets.now c.loop-target.start c.loop-target.target-index c.functions.result c.target-item.result c.loop-target.invariant.within c.loop-target.invariant.left c.loop-target-test.true c.target-item.is c.functions.ensures, c.requires.few)

pub prove-unreachable-requires : goal.prove-unreachable-requires
prove-unreachable-requires c = omega (arith, ends_within c.args.functions.now c.args.targets.now c.loop-target.start c.loop-target.target-index c.functions.result c.target-item.result c.loop-target.invariant.within c.loop-target.invariant.left c.loop-target-test.true c.target-item.is c.functions.ensures)

pub site_in_scope-requires-clause-scope : goal.site_in_scope-requires-clause-scope
site_in_scope-requires-clause-scope c =
    let only = c.args.only.now in
    let own = its_object c.args.functions.now c.args.targets.now c.loop-target.start c.loop-target.target-index c.functions.result c.target-item.result c.loop-target.invariant.within c.loop-target.invariant.left c.loop-target-test.true c.target-item.is c.functions.ensures c.loop-number.number c.index-functions-number.result c.index-functions-number.is c.loop-number.auto.number c.loop-number-test.true in
    c.is_in_scope-in_scope.ensures
    ∙ ap (λ (im : TextImage). is_in_scope only im.loaded c.object.result) c.image.ensures.value
    ∙ ap (λ flags. is_in_scope only flags c.object.result) (c.loop-target.invariant.entries.loaded ∙ sym c.loop-number.invariant.entries.loaded)
    ∙ ap (is_in_scope only c.loop-number.sites.loaded) (c.object.ensures ∙ sym own)

pub loop-number-preserved : goal.loop-number-preserved
loop-number-preserved c =
    let before = c.args.sites.now in
    let now = c.loop-number.sites in
    let i = c.loop-number.number in
    let only = c.args.only.now in
    let functions = c.args.functions.now in
    let number : ℕ → Option ℕ = λ site. function_for (map setting_function c.args.functions.now) site in
    let make : ℕ → List Entry → List Entry = λ site entries. entries_of_others c.args.patch entries in
    let so_far = c.loop-number.invariant.entries in
    let below : i < length functions = omega arith in
    let own = in_scope_here functions _ refl i before now only _ make so_far c.requires.distinct below c.index-functions-number.result c.index-functions-number.is in
    elim c.match-site_in_scope.branch [
      | in-Some w ↦ rw (w.sites-is, w.log-is) (record {
        entries = made_both before now w.take.new.sites (λ site. is_covered before only site && is_below (number site) i) (λ site. eqb w.in-Some.site site) (λ site. is_covered before only site && is_below (number site) (i + 1))
            make (λ site entries. entries_of_others c.args.patch entries) make so_far w.take.ensures.entries
            (λ site. next_function (eqb w.in-Some.site site) (is_covered before only site) (number site) i (make site) (λ entries. entries_of_others c.args.patch entries) (entries_at before.stacks site) (w.in-Some.ensures.site site ∙ own site) (λ is. refl));
        notes = notes_taken before now w.take.new.sites c.args.log.now c.loop-number.log w.take.new.log i 1 (i + 1) (omega arith) c.loop-number.invariant.notes w.take.ensures.notes;
      })
      | in_default w ↦ rw (w.sites-is, w.log-is) (record {
        entries = made_also before now (λ site. is_covered before only site && is_below (number site) i) (λ site. is_covered before only site && is_below (number site) (i + 1)) make make so_far
            (λ site. next_function false (is_covered before only site) (number site) i (make site) (make site) (entries_at before.stacks site) (w.in_default.ensures.site site ∙ own site) (λ is. refl));
        notes = notes_longer before now c.args.log.now c.loop-number.log i (i + 1) _ _ (omega arith) c.loop-number.invariant.notes;
      })
    ]

pub loop-target-preserved : goal.loop-target-preserved
loop-target-preserved c =
    let before = c.args.sites.now in
    let only = c.args.only.now in
    let number : ℕ → Option ℕ = λ site. function_for (map setting_function c.args.functions.now) site in
    let make : ℕ → List Entry → List Entry = λ site entries. entries_of_others c.args.patch entries in
    let past : c.loop-number.number ≡ c.loop-target.start + c.functions.result = omega arith in
    record {
      within = ends_within c.args.functions.now c.args.targets.now c.loop-target.start c.loop-target.target-index c.functions.result c.target-item.result c.loop-target.invariant.within c.loop-target.invariant.left c.loop-target-test.true c.target-item.is c.functions.ensures;
      left = left_behind c.args.functions.now c.args.targets.now c.loop-target.start c.loop-target.target-index c.functions.result c.target-item.result c.loop-target.invariant.within c.loop-target.invariant.left c.loop-target-test.true c.target-item.is c.functions.ensures;
      entries = subst (λ n. AreMade before c.loop-number.sites (λ site. is_covered before only site && is_below (number site) n) make) past c.loop-number.invariant.entries;
      notes = subst (λ n. Notes before c.loop-number.sites c.args.log.now c.loop-number.log n (hooked_count c.loop-number.sites) (hooked_count before)) past c.loop-number.invariant.notes;
    }

pub returns-clause-entries : goal.returns-clause-entries
returns-clause-entries c =
    let before = c.args.sites.now in
    let now = c.loop-target.sites in
    let i = c.loop-target.start in
    let only = c.args.only.now in
    let functions = c.args.functions.now in
    let number : ℕ → Option ℕ = λ site. function_for (map setting_function c.args.functions.now) site in
    let make : ℕ → List Entry → List Entry = λ site entries. entries_of_others c.args.patch entries in
    let so_far = c.loop-target.invariant.entries in
    let past : i ≡ length functions = all_done functions c.args.targets.now i c.loop-target.target-index c.loop-target.invariant.within c.loop-target.invariant.left c.loop-target-test.false in
    let done = all_in_scope functions _ refl i past in
    made_also before now (λ site. is_covered before only site && is_below (number site) i) (λ site. is_covered before only site && is_some (number site)) make make so_far
    (λ site. ap (λ b. cond (is_covered before only site && b) (make site (entries_at before.stacks site)) (entries_at before.stacks site)) (done site))
