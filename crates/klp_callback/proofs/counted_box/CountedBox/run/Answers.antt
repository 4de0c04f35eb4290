use Rattle.std.proofs.Common.{rules}
use Rattle.klp_callback.proofs.counted_box.CountedBox.run.Goals as goal

pub returns-then-is_same-clause-runs : goal.returns-then-is_same-clause-runs
returns-then-is_same-clause-runs g c = search rules
