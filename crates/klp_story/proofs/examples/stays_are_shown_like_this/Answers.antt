use Rattle.std.proofs.Common.{refl}
use Rattle.std.specs.Fmt.{digits}
use Rattle.klp_markup.specs.Tasks.{tasks_text}
use Rattle.klp_story.specs.Words.{link_text}
use Rattle.klp_story.proofs.examples.stays_are_shown_like_this.Goals as goal

pub returns-clause-line : goal.returns-clause-line
unfolding link_text digits
returns-clause-line c = refl

pub returns-clause-lines : goal.returns-clause-lines
unfolding link_text digits
returns-clause-lines c = refl

pub returns-clause-still : goal.returns-clause-still
unfolding link_text digits
returns-clause-still c = refl

pub returns-clause-held : goal.returns-clause-held
unfolding digits
returns-clause-held c = refl

pub returns-clause-lagging : goal.returns-clause-lagging
unfolding tasks_text digits
returns-clause-lagging c = refl

pub returns-clause-alone : goal.returns-clause-alone
unfolding tasks_text digits
returns-clause-alone c = refl

pub returns-clause-refused : goal.returns-clause-refused
unfolding digits
returns-clause-refused c = refl

pub returns-clause-one_refused : goal.returns-clause-one_refused
returns-clause-one_refused c = refl

pub returns-clause-nothing : goal.returns-clause-nothing
returns-clause-nothing c = λ catalog. refl
