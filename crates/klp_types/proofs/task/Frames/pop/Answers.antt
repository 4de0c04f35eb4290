use Rattle.std.proofs.Common.{◌≡◌, ◌-◌, ◌+◌, subst, arith}
use Rattle.klp_types.specs.declared.version.Version.TheVariants.{Original}
use Rattle.klp_types.specs.Padded.{IsPadded}
use Rattle.klp_types.proofs.PaddedLemmas.{few, popped}
use Rattle.klp_types.proofs.task.Frames.pop.Goals as goal

pub invariant_of-self : goal.invariant_of-self
invariant_of-self c =
    let one : c.self.inside.count ≡ c.self.inside.count - 1 + 1 = omega arith in
    popped 32 (Original 0) c.self.inside.versions (c.self.inside.count - 1)
    (subst (IsPadded 32 (Original 0) c.self.inside.versions) one c.self.invariant) (grind (arith, few 32 (Original 0) c.self.inside.versions c.self.inside.count c.self.invariant, c.self.ranges))
