use Rattle.std.proofs.Common.{inr}
use Rattle.klp_manager_state.specs.Managed.{setting_of}
use Rattle.klp_lint_alone.proofs.AloneLemmas.{fair_either}
use Rattle.klp_lint_alone.proofs.tracing.trace_of.Goals as goal

pub returns-in-Ok-clause-listed : goal.returns-in-Ok-clause-listed
returns-in-Ok-clause-listed g c = λ patches.
    let here = c.args.manager.now.managed in
    fair_either (setting_of here) here.state c.args.patch c.trace_without_fault.result (c.in-Ok.ensures patches)

pub returns-in-Err-clause-listed : goal.returns-in-Err-clause-listed
returns-in-Err-clause-listed g c = λ patches. inr (c.failing.ensures.listed (c.in-Err.ensures patches))
