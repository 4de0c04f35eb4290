use Rattle.klp_types.specs.declared.version.Version.TheVariants.{Original}
use Rattle.klp_types.proofs.PaddedLemmas.{pushed}
use Rattle.klp_types.proofs.task.Frames.push.Goals as goal

pub invariant_of-self : goal.invariant_of-self
invariant_of-self c = pushed 32 (Original 0) c.self.inside.versions c.self.inside.count c.args.version c.self.invariant c.if-self-lt-MAX_FRAMES.true
