use Rattle.std.proofs.Common.{refl}
use Rattle.std.specs.Fmt.{digits}
use Rattle.klp_markup.specs.Tasks.{tasks_text}
use Rattle.klp_story.proofs.examples.tasks_are_shown_like_this.Goals as goal

pub returns-clause-one : goal.returns-clause-one
unfolding tasks_text digits
returns-clause-one c = refl

pub returns-clause-two : goal.returns-clause-two
unfolding tasks_text digits
returns-clause-two c = refl

pub returns-clause-nine : goal.returns-clause-nine
unfolding tasks_text digits
returns-clause-nine c = refl

pub returns-clause-ten : goal.returns-clause-ten
unfolding tasks_text digits
returns-clause-ten c = refl
