use Rattle.std.proofs.Common.{◌≡◌, ℕ, pos, List, [], ◌∷◌, ◌++◌, Some, length, option_map, refl, sym, ap, subst, ◌∙◌}
use Rattle.std.specs.List.{slice_get}
use Rattle.klp_types.specs.Script.{Script}
use Rattle.klp_callback.specs.LentCallback.{LentCallback}
use Rattle.klp_catalog_text.specs.Plan.{Plan}
use Rattle.klp_catalog_text.specs.Scripts.{scripts_of}
use Rattle.klp_boot.specs.Booted.{never_ran}
use Rattle.klp_boot.specs.Kinds.{lent_by}
use Rattle.klp_boot.proofs.BoxLemmas.{first_made, next_made, all_made, reported_of}
use denote.Param.Object.{read_made}
use Rattle.klp_boot.proofs.over.over_plan.OwnLists.{own-1, at-1-1, at-1-2, at-1-3}
use Rattle.klp_boot.proofs.over.over_plan.Goals as goal
use Rattle.klp_boot.proofs.over.over_plan.Goals.{in-Scripted, in-Refusing, in-Quiet}

-- the callback means the script, whichever kind it is
pub loop-callbacks-preserved : goal.loop-callbacks-preserved
loop-callbacks-preserved g c =
    let is_lent : c.match-kind.callback ≡ lent_by c.in-Some.kind =
    elim c.match-kind.branch [
      | in-Scripted w ↦
          let i = w.into_dyn_box.result.vtable in
          let box = w.into_dyn_box.result.value in
          let value = w.in-Scripted.callback.value in
          let made = w.into_dyn_box.ensures.1 in
          reported_of c.match-kind.callback ((own-1.entry i).1.script_of box) value.script ((own-1.entry i).1.runs_of box) value.runs (w.callback-is ∙ w.new-callback.ensures)
          (read_made own-1 (own-1.entry at-1-1) at-1-1 refl Script (λ j v. j.1.script_of v) i box value made)
          (read_made own-1 (own-1.entry at-1-1) at-1-1 refl ℕ (λ j v. j.1.runs_of v) i box value made)
          ∙ sym (ap lent_by w.in-Scripted.is)
      | in-Refusing w ↦
          let i = w.into_dyn_box-in-Refusing.result.vtable in
          let box = w.into_dyn_box-in-Refusing.result.value in
          let value = w.in-Refusing.callback.value in
          let made = w.into_dyn_box-in-Refusing.ensures.1 in
          reported_of c.match-kind.callback ((own-1.entry i).1.script_of box) (record { edits = []; status = value.status }) ((own-1.entry i).1.runs_of box) value.runs (w.callback-is ∙ w.new-callback-in-Refusing.ensures)
          (read_made own-1 (own-1.entry at-1-2) at-1-2 refl Script (λ j v. j.1.script_of v) i box value made)
          (read_made own-1 (own-1.entry at-1-2) at-1-2 refl ℕ (λ j v. j.1.runs_of v) i box value made)
          ∙ sym (ap lent_by w.in-Refusing.is)
      | in-Quiet w ↦
          let i = w.into_dyn_box-in-Quiet.result.vtable in
          let box = w.into_dyn_box-in-Quiet.result.value in
          let value = w.in-Quiet.callback.value in
          let made = w.into_dyn_box-in-Quiet.ensures.1 in
          reported_of c.match-kind.callback ((own-1.entry i).1.script_of box) (record { edits = []; status = pos 0 }) ((own-1.entry i).1.runs_of box) value (w.callback-is ∙ w.new-callback-in-Quiet.ensures)
          (read_made own-1 (own-1.entry at-1-3) at-1-3 refl Script (λ j v. j.1.script_of v) i box value made)
          (read_made own-1 (own-1.entry at-1-3) at-1-3 refl ℕ (λ j v. j.1.runs_of v) i box value made)
          ∙ sym (ap lent_by w.in-Quiet.is)
    ]
    in
    let scripts = scripts_of c.plan.inside.patches.items in
    let made = c.loop-callbacks.callbacks.items in
    let count : length made ≡ c.len.result = search in
    let next : option_map never_ran (slice_get scripts (length made)) ≡ Some (lent_by c.in-Some.kind) =
    ap (λ (p : Plan). option_map never_ran (slice_get (scripts_of p.patches) (length made))) c.plan.view_is
    ∙ ap (λ (n : ℕ). option_map never_ran (slice_get (scripts_of c.args.plan.patches) n)) count
    ∙ sym c.in_ok-kind.ensures ∙ ap (option_map lent_by) c.in-Some.is
    in
    let pushed : c.push.new.self.items ≡ made ++ lent_by c.in-Some.kind ∷ [] =
    c.in_ok-push.ensures.items ∙ ap (λ (t : LentCallback). made ++ t ∷ []) is_lent
    in
    subst (λ (items : List LentCallback). items ≡ first_made items scripts) (sym pushed) (next_made made scripts (lent_by c.in-Some.kind) next c.loop-callbacks.invariant)

pub boot-requires-clause-callbacks : goal.boot-requires-clause-callbacks
boot-requires-clause-callbacks g c =
    let scripts = scripts_of c.args.plan.patches in
    let made = c.loop-callbacks.callbacks.items in
    let count : length made ≡ c.len.result = search in
    let so_far : made ≡ first_made made scripts =
    c.loop-callbacks.invariant ∙ ap (λ (p : Plan). first_made made (scripts_of p.patches)) c.plan.view_is
    in
    all_made made scripts
    (ap (λ (n : ℕ). option_map never_ran (slice_get scripts n)) count ∙ sym c.in_ok-kind.ensures ∙ ap (option_map lent_by) c.in_default.is) so_far
