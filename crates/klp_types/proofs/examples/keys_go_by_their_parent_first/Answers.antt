use Rattle.std.proofs.Common.{rules}
use Rattle.klp_types.proofs.examples.keys_go_by_their_parent_first.Goals as goal

pub returns-clause-parent : goal.returns-clause-parent
returns-clause-parent c = search rules

pub returns-clause-id : goal.returns-clause-id
returns-clause-id c = search rules
