use Rattle.std.proofs.Common.{ap, ◌∙◌, false, replicate}
use Rattle.klp_manager_state.proofs.state.make_room.Goals as goal

pub returns-clause-pinned : goal.returns-clause-pinned
returns-clause-pinned g c = c.in_ok-pinned.ensures ∙ ap (λ n. replicate n false) c.patches.ensures.count
