use Rattle.klp_console_io.proofs.SaysLemmas.{says-append, says_nothing}
use Rattle.klp_console_io.proofs.laws.what_is_said_adds_up.Goals as goal

pub returns-clause-adds_up : goal.returns-clause-adds_up
returns-clause-adds_up c = says-append

pub returns-clause-nothing : goal.returns-clause-nothing
returns-clause-nothing c = says_nothing
