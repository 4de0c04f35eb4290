use Rattle.std.proofs.Common.{rules}
use Rattle.klp_console_io.proofs.line_buffer.LineBuffer.bytes.Goals as goal

pub returns-clause-limit : goal.returns-clause-limit
returns-clause-limit c = search rules
