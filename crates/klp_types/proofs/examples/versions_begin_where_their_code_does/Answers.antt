use Rattle.std.proofs.Common.{rules}
use Rattle.klp_types.proofs.examples.versions_begin_where_their_code_does.Goals as goal

pub returns-clause-original : goal.returns-clause-original
returns-clause-original c = search rules
