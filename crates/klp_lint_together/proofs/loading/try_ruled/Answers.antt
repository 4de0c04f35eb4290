use Rattle.std.proofs.Common.{sym, ◌∙◌}
use Rattle.klp_journal.specs.Journal.{has_room}
use Rattle.klp_model.specs.declared.event.Event.TheVariants.{Enable}
use Rattle.klp_model.specs.Run.{answer}
use Rattle.klp_manager_state.specs.Managed.{setting_of}
use Rattle.klp_lint_findings.specs.Standing.{standing, answer_at}
use Rattle.klp_lint_together.proofs.KeptLemmas.{further_on}
use Rattle.klp_lint_together.proofs.StartLemmas.{started, tells_outcome}
use Rattle.klp_lint_together.proofs.loading.try_ruled.Goals as goal

pub returns-clause-tells : goal.returns-clause-tells
returns-clause-tells g c =
    tells_outcome (answer_at (standing c.args.manager.now) (Enable c.args.patch)) c.start-outcome.result c.start-outcome.ensures.outcome

pub returns-clause-starts : goal.returns-clause-starts
returns-clause-starts g c =
    λ is.
    let manager = c.args.manager.now in
    started (has_room manager.groups) (answer (setting_of manager.managed) manager.managed.state (Enable c.args.patch))
    (sym c.start-outcome.ensures.outcome ∙ is)

pub returns-clause-kept : goal.returns-clause-kept
returns-clause-kept g c =
    c.take_back.ensures.back c.args.manager.now c.mark-mark.ensures.well_formed c.mark-mark.ensures.mark
    (further_on c.start-outcome.ensures.further c.finish-end.ensures)
