use Rattle.std.proofs.Common.{◌==◌, ap, sym, ◌∙◌}
use Rattle.std.specs.List.{before_first, after_first}
use Rattle.klp_live_run.specs.Steps.{unindented, half_of, step_of}
use Rattle.klp_live_run.proofs.StepLemmas.{step_made}
use Rattle.klp_live_run.proofs.step_lines.task_step.Goals as goal

pub returns : goal.returns
returns g c =
    let number = c.cut.ensures.before ∙ ap (before_first (λ b. b == 32)) c.unindented.ensures in
    let rest = c.unindented-2.ensures ∙ ap unindented (c.cut.ensures.after ∙ ap (after_first (λ b. b == 32)) c.unindented.ensures) in
    step_made c.args.manager.now c.args.line.now c.in_ok-half.half c.in_ok-step.step
    (ap half_of (sym number) ∙ sym c.half_of.ensures ∙ c.in_ok-half.was)
    (ap (step_of c.args.manager.now) (sym rest) ∙ sym c.step_of.ensures ∙ c.in_ok-step.was)
