use Rattle.std.proofs.Common.{rules, eqb-true, ℕ, List, subst, sym, ◌∙◌, arith}
use Rattle.std.proofs.lemmas.List.{nil_from_length}
use Rattle.std.specs.Str.Lines.{lines}
use Rattle.klp_catalog_text.proofs.TextLemmas.{length-lines}
use Rattle.klp_live_run.proofs.StepLemmas.{IsReadTo, blank_read, one_read, few_lines}
use Rattle.klp_live_run.proofs.step_lines.steps_of.Goals as goal

pub overflow_add-number : goal.overflow_add-number
overflow_add-number g c =
    let all = lines c.args.text.now in
    let so_far = subst (λ (left : List (List ℕ)). IsReadTo c.args.manager.now all left c.loop-line.number c.loop-line.steps.first.items c.loop-line.steps.second.items) c.in-Some.ensures c.loop-line.invariant in
    omega (
      arith,
      length-lines c.args.text.now,
      few_lines c.args.manager.now all c.next.new.self c.loop-line.number c.in-Some.line.now c.loop-line.steps.first.items c.loop-line.steps.second.items so_far,
    )

pub loop-line-preserved-then-is_empty : goal.loop-line-preserved-then-is_empty
loop-line-preserved-then-is_empty g c =
    let all = lines c.args.text.now in
    let so_far = subst (λ (left : List (List ℕ)). IsReadTo c.args.manager.now all left c.loop-line.number c.loop-line.steps.first.items c.loop-line.steps.second.items) c.in-Some.ensures c.loop-line.invariant in
    blank_read c.args.manager.now all c.next.new.self c.loop-line.number c.in-Some.line.now c.loop-line.steps.first.items c.loop-line.steps.second.items so_far
    (sym c.unindented.ensures ∙ nil_from_length c.unindented.result.now (eqb-true _ 0 (sym c.is_empty.ensures ∙ c.if-is_empty.true)))

pub loop-line-preserved : goal.loop-line-preserved
loop-line-preserved g c =
    let all = lines c.args.text.now in
    let so_far = subst (λ (left : List (List ℕ)). IsReadTo c.args.manager.now all left c.loop-line.number c.loop-line.steps.first.items c.loop-line.steps.second.items) c.in-Some.ensures c.loop-line.invariant in
    one_read c.args.manager.now all c.next.new.self c.loop-line.number c.in-Some.line.now c.in-Some-task_step.half c.in-Some-task_step.step
    c.loop-line.steps.first.items c.loop-line.steps.second.items c.add.new.self.first.items c.add.new.self.second.items so_far (search rules) (search rules)

pub returns-in_default-task_step : goal.returns-in_default-task_step
returns-in_default-task_step g c = search rules
