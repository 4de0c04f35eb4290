use Rattle.std.proofs.Common.{rules}
use Rattle.klp_console_io.proofs.taken.TakenSink.write.Goals as goal

pub returns-else-count-eq0-clause-ok : goal.returns-else-count-eq0-clause-ok
returns-else-count-eq0-clause-ok g c = search rules
