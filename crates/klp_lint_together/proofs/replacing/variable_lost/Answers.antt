use Rattle.std.proofs.Common.{Bool, true, not, List, ap, subst, ◌∙◌}
use Rattle.klp_model.specs.declared.event.Event.{Event}
use Rattle.klp_lint_findings.specs.declared.finding.ReplaceFinding.TheVariants.{Leaves, Loses}
use Rattle.klp_lint_findings.specs.Claims.{replacing, withdrawing, IsThereBehind, StaysSo}
use Rattle.klp_lint_findings.specs.Standing.{standing}
use Rattle.klp_lint_findings.proofs.ClaimLemmas.{replace_true}
use Rattle.klp_lint_together.proofs.BehindLemmas.{leaves_so, loses_so}
use Rattle.klp_lint_together.proofs.replacing.variable_lost.Goals as goal

pub returns-then-not-was_there-clause-claims : goal.returns-then-not-was_there-clause-claims
returns-then-not-was_there-clause-claims g c =
    let here = standing c.args.manager.now in
    let own = c.args.replacing.now in
    replace_true c.args.linted.now here own.patch (Leaves own.other c.args.key own.is_sure)
    (leaves_so here own.patch own.other c.args.key c.events_replacing-events.result c.shadow_get.result c.is_some-was_there.result
    c.shadow_get.ensures c.is_some-was_there.ensures c.if-not-was_there.true c.events_replacing-events.ensures
    (c.stays_so.ensures.stays c.if-not-stays_so.false))

pub returns-clause-claims : goal.returns-clause-claims
returns-clause-claims g c =
    let manager = c.args.manager.now in
    let own = c.args.replacing.now in
    replace_true c.args.linted.now (standing manager) own.patch (Loses own.other c.args.key own.is_sure)
    (loses_so manager c.stays_so.new.manager own.patch own.other c.args.key c.events_replacing-events.result c.events_withdrawing-alone.result
    c.shadow_get.result c.is_some-was_there.result c.is_there.result c.shadow_get.ensures c.is_some-was_there.ensures c.if-not-was_there.false
    c.events_replacing-events.ensures c.events_withdrawing-alone.ensures (c.stays_so.ensures.stays c.if-not-stays_so.false)
    c.stays_so.ensures.kept c.is_there.ensures.behind c.if-not-is_there.false)
