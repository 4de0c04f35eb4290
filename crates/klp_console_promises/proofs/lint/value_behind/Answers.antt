use Rattle.klp_console_promises.proofs.lint.value_behind.Goals as goal

pub returns-clause-seen : goal.returns-clause-seen
returns-clause-seen g c = c.value_behind.ensures.seen
