use denote.Exit.{yes}
use denote.Param.Object.{read_made}
use Rattle.std.proofs.Common.{◌≡◌, ℕ, List, [], ◌∷◌, ◌++◌, Some, length, option_map, refl, sym, ap, subst, ◌∙◌}
use Rattle.std.specs.List.{slice_get}
use Rattle.klp_types.specs.Script.{Script}
use Rattle.klp_callback.specs.LentCallback.{LentCallback}
use Rattle.klp_catalog_text.specs.Plan.{Plan}
use Rattle.klp_catalog_text.specs.Scripts.{scripts_of}
use Rattle.klp_core.proofs.Sends.{manager_given}
use Rattle.klp_boot.specs.Booted.{never_ran}
use Rattle.klp_boot.proofs.BoxLemmas.{first_made, next_made, all_made, reported_of}
use Rattle.klp_live_run.proofs.RunLemmas.{lives_plan}
use Rattle.klp_callback.specs.contracts.boxed.Boxed.new.dyn-1 as table
use Rattle.klp_live_run.proofs.running.live_over_plan.OwnLists.{own-1, lawful-own-1, at-1-1}
use Rattle.klp_live_run.proofs.running.live_over_plan.Hidden.{sends-own-1}
use Rattle.klp_live_run.proofs.running.live_over_plan.Goals as goal

-- the callback means the script
pub loop-script-preserved : goal.loop-script-preserved
loop-script-preserved g c =
    let i = c.into_dyn_box.result.vtable in
    let box = c.into_dyn_box.result.value in
    let value = c.in_ok-callback.callback.value in
    let made = c.into_dyn_box.ensures.1 in
    let boxed = reported_of c.new-in-Some-2.result ((own-1.entry i).1.script_of box) value.script ((own-1.entry i).1.runs_of box) value.runs c.new-in-Some-2.ensures
    (read_made own-1 (own-1.entry at-1-1) at-1-1 refl Script (λ j v. j.1.script_of v) i box value made)
    (read_made own-1 (own-1.entry at-1-1) at-1-1 refl ℕ (λ j v. j.1.runs_of v) i box value made)
    in
    let is_lent : c.new-in-Some-2.result ≡ never_ran c.in-Some.script.now =
    boxed ∙ c.in_ok-callback.ensures.ok ∙ c.new.ensures ∙ ap never_ran c.copy.ensures
    in
    let scripts = scripts_of c.plan.inside.patches.items in
    let so_far = c.loop-script.callbacks.items in
    let count : length so_far ≡ c.len.result = search in
    let next : option_map never_ran (slice_get scripts (length so_far)) ≡ Some (never_ran c.in-Some.script.now) =
    ap (λ (p : Plan). option_map never_ran (slice_get (scripts_of p.patches) (length so_far))) c.plan.view_is
    ∙ ap (λ (n : ℕ). option_map never_ran (slice_get (scripts_of c.args.plan.patches) n)) count
    ∙ ap (option_map never_ran) (sym c.in-Some.ensures)
    in
    let pushed : c.push.new.self.items ≡ so_far ++ never_ran c.in-Some.script.now ∷ [] =
    c.in_ok-push.ensures.items ∙ ap (λ (t : LentCallback). so_far ++ t ∷ []) is_lent
    in
    subst (λ (items : List LentCallback). items ≡ first_made items scripts) (sym pushed) (next_made so_far scripts (never_ran c.in-Some.script.now) next c.loop-script.invariant)

pub boot-requires-clause-callbacks : goal.boot-requires-clause-callbacks
boot-requires-clause-callbacks g c =
    let scripts = scripts_of c.args.plan.patches in
    let made = c.loop-script.callbacks.items in
    let count : length made ≡ c.len.result = search in
    let so_far : made ≡ first_made made scripts =
    c.loop-script.invariant ∙ ap (λ (p : Plan). first_made made (scripts_of p.patches)) c.plan.view_is
    in
    all_made made scripts
    (ap (λ (n : ℕ). option_map never_ran (slice_get scripts n)) count ∙ ap (option_map never_ran) (sym c.in_default.ensures)) so_far

-- a manager may cross threads, and so may the callbacks that are made here
pub live_over_manager-requires-send-M : goal.live_over_manager-requires-send-M
live_over_manager-requires-send-M g c κs within = manager_given table.slots own-1 lawful-own-1 sends-own-1 _ _ yes

pub returns : goal.returns
returns g c = lives_plan c.args.plan c.in_ok-manager.manager c.args.text.now (g.W.Write.contents c.args.out.now) (g.W.Write.contents c.live_over_manager.new.out) c.live_over_manager.result c.in_ok-manager.ensures.booted c.live_over_manager.ensures
