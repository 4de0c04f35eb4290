use Rattle.std.proofs.Common.{rules}
use Rattle.klp_console_io.proofs.over_write.OverWriteSink.write.Goals as goal

pub returns-in-Err-clause-err : goal.returns-in-Err-clause-err
returns-in-Err-clause-err g c = search rules
