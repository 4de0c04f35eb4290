use Rattle.std.proofs.Common.{rules}
use Rattle.klp_text.proofs.entry_site.displacement.Goals as goal

pub returns : goal.returns
returns c = search rules
