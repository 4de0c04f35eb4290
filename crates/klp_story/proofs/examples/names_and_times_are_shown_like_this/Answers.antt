use Rattle.std.proofs.Common.{refl}
use Rattle.std.specs.Fmt.{digits}
use Rattle.klp_markup.specs.Tasks.{tasks_text}
use Rattle.klp_markup.specs.Times.{seconds_text}
use Rattle.klp_story.specs.Words.{link_text}
use Rattle.klp_story.proofs.examples.names_and_times_are_shown_like_this.Goals as goal

pub returns-clause-named : goal.returns-clause-named
unfolding tasks_text digits
returns-clause-named c = refl

pub returns-clause-escaped : goal.returns-clause-escaped
unfolding digits
returns-clause-escaped c = refl

pub returns-clause-lasted : goal.returns-clause-lasted
unfolding link_text seconds_text digits
returns-clause-lasted c = refl

pub returns-clause-still : goal.returns-clause-still
unfolding link_text seconds_text digits
returns-clause-still c = refl

pub returns-clause-unknown : goal.returns-clause-unknown
unfolding link_text seconds_text digits
returns-clause-unknown c = refl
