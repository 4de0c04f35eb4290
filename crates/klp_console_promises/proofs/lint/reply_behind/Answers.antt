use Rattle.klp_console_promises.proofs.lint.reply_behind.Goals as goal

pub returns-clause-answered : goal.returns-clause-answered
returns-clause-answered g c = c.reply_behind.ensures.answered
