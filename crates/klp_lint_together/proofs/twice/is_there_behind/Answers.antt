use Rattle.klp_lint_together.proofs.KeptLemmas.{kept_back}
use Rattle.klp_lint_together.proofs.BehindLemmas.{seen_there}
use Rattle.klp_lint_together.proofs.twice.is_there_behind.Goals as goal

pub returns-clause-behind : goal.returns-clause-behind
returns-clause-behind g c =
    seen_there c.args.manager.now c.value_behind.new.manager c.args.events.now c.args.key c.value_behind.result c.is_some.result
    c.value_behind.ensures.seen c.is_some.ensures

pub returns-clause-kept : goal.returns-clause-kept
returns-clause-kept g c = kept_back c.value_behind.ensures.seen.back c.value_behind.ensures.setting
