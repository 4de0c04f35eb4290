use Rattle.std.proofs.Common.{rules}
use Rattle.klp_callback.proofs.edits.take_previous.Goals as goal

pub returns-in-Some-value : goal.returns-in-Some-value
returns-in-Some-value c = search rules
