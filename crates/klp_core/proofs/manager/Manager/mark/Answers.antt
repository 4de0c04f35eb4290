use Rattle.std.proofs.Common.{subst}
use Rattle.klp_core.specs.Journaled.{groups_in, IsWellFormed}
use Rattle.klp_core.proofs.JournalLemmas.{over, sound_stands}
use Rattle.klp_core.proofs.manager.Manager.mark.Goals as goal

pub returns-clause-well_formed : goal.returns-clause-well_formed
returns-clause-well_formed g c = subst IsWellFormed c.self.view_is (sound_stands c.self.inside.state c.self.inside.catalog (groups_in c.self.inside.state c.self.inside.journal) (over c.self.inside.state c.self.inside.catalog c.self.inside.journal c.self.invariant))
