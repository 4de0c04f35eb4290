use Rattle.klp_console_io.proofs.LineLemmas.{lines_and_rest-append}
use Rattle.klp_console_io.proofs.laws.lines_add_up.Goals as goal

pub returns-clause-next : goal.returns-clause-next
returns-clause-next c = lines_and_rest-append
