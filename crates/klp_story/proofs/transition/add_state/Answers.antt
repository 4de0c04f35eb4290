use Rattle.std.proofs.Common.{rules}
use Rattle.klp_story.proofs.transition.add_state.Goals as goal

pub returns-in-Some : goal.returns-in-Some
returns-in-Some g c = search rules
