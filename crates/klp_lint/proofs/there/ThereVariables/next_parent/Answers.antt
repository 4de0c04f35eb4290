use Rattle.klp_world.specs.Parents.{lowest_above}
use Rattle.klp_lint.proofs.ThereLemmas.{next_there}
use Rattle.klp_lint.proofs.there.ThereVariables.next_parent.Goals as goal

pub returns : goal.returns
returns g c =
    next_there c.args.self.now.0.now.managed.state.world c.args.id (lowest_above c.args.after) c.next_parent.result c.next_parent.ensures
