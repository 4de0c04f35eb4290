-- An outcome tells of the answer.
use Rattle.std.proofs.Common.{arith, subst}
use Rattle.std.proofs.lemmas.Int.{ints, to_z-of_z}
use Rattle.klp_model.specs.declared.event.Refusal.TheVariants.{Incompatible}
use Rattle.klp_lint_together.specs.Starting.{Tells}
use Rattle.klp_lint_together.proofs.StartLemmas.{refused_by}
use Rattle.klp_lint_together.proofs.why.why_of.Goals as goal

pub returns-in-Failed-clause-some : goal.returns-in-Failed-clause-some
returns-in-Failed-clause-some g c = λ answer tells.
    let own = subst (Tells answer) c.in-Failed.is tells in (own.0, grind (arith, ints, to_z-of_z, own.1))

pub returns-in-Some-clause-some : goal.returns-in-Some-clause-some
returns-in-Some-clause-some g c = λ answer tells. subst (Tells answer) c.in-Incompatible.is tells

pub returns-in-None-clause-some : goal.returns-in-None-clause-some
returns-in-None-clause-some g c = λ answer tells. refused_by answer Incompatible (subst (Tells answer) c.in-Incompatible.is tells)

pub returns-in-Full-clause-some : goal.returns-in-Full-clause-some
returns-in-Full-clause-some g c = λ answer tells. subst (Tells answer) c.in-Full.is tells

pub returns-in-Pinned-clause-some : goal.returns-in-Pinned-clause-some
returns-in-Pinned-clause-some g c = λ answer tells. subst (Tells answer) c.in-Pinned.is tells

pub returns-in-Refused-clause-some : goal.returns-in-Refused-clause-some
returns-in-Refused-clause-some g c = λ answer tells. subst (Tells answer) c.in-Refused.is tells
