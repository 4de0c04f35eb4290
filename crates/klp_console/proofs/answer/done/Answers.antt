use Rattle.std.proofs.Common.{rules}
use Rattle.klp_console.proofs.answer.done.Goals as goal

pub returns-in-None : goal.returns-in-None
returns-in-None g c = search rules

pub returns-in-Some-Ok-Ask : goal.returns-in-Some-Ok-Ask
returns-in-Some-Ok-Ask g c = search rules
