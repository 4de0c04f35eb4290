use Rattle.std.proofs.Common.{◌≡◌, List, ap, subst, ◌∙◌}
use Rattle.std.specs.List.{flat_map}
use Rattle.klp_capture.specs.declared.capture.PatchRow.{PatchRow}
use Rattle.klp_capture.specs.declared.capture.SeenTask.{SeenTask}
use Rattle.klp_capture.specs.Shown.{span_of, task_items, patch_items, StandInOrder}
use Rattle.klp_capture.proofs.ShownLemmas.{stand-append}
use Rattle.klp_capture.proofs.capture.Capture.sample_stands.Goals as goal

-- the tasks stand, and the files behind them
pub returns : goal.returns
returns c = λ all.
    let threads = c.args.threads.now in
    let patches = c.args.patches.now in
    let from = c.args.lines.now in
    let mid = c.tasks_stand.new.lines in
    let to = c.patches_stand.new.lines in
    let seen : c.of-tasks.result.now ≡ span_of c.args.sample.now.tasks c.args.self.now.seen.items =
    c.of-tasks.ensures ∙ ap (λ (items : List SeenTask). span_of c.args.sample.now.tasks items) c.deref.ensures.value
    in
    let rows : c.of.result.now ≡ span_of c.args.sample.now.patches c.args.self.now.rows.items =
    c.of.ensures ∙ ap (λ (items : List PatchRow). span_of c.args.sample.now.patches items) c.deref-2.ensures.value
    in
    stand-append _ _ from mid to
    (subst (λ (tasks : List SeenTask). StandInOrder (flat_map (task_items threads) tasks) from mid) seen (c.in_ok-tasks_stand.ensures c.if-not-branch.false))
    (subst (λ (rows : List PatchRow). StandInOrder (flat_map (patch_items rows) patches) mid to) rows (c.in_ok-stand.ensures all))
