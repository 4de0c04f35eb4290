use Rattle.std.proofs.Common.{refl}
use Rattle.std.specs.Fmt.{digits}
use Rattle.klp_story.proofs.examples.facts_are_shown_like_this.Goals as goal

pub returns-clause-complete : goal.returns-clause-complete
returns-clause-complete c = λ catalog. refl

pub returns-clause-forced : goal.returns-clause-forced
unfolding digits
returns-clause-forced c = λ catalog. refl

pub returns-clause-undone : goal.returns-clause-undone
unfolding digits
returns-clause-undone c = λ catalog. refl
