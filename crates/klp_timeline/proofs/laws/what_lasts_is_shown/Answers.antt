use Rattle.klp_timeline.specs.Shown.{excess}
use Rattle.klp_timeline.proofs.ShownLemmas.{lasting_shown, each_counted, short_shown}
use Rattle.klp_timeline.proofs.laws.what_lasts_is_shown.Goals as goal

pub returns-clause-lasting : goal.returns-clause-lasting
returns-clause-lasting c = λ all one. lasting_shown (excess all) all one

pub returns-clause-count : goal.returns-clause-count
returns-clause-count c = λ all. each_counted (excess all) all

pub returns-clause-short : goal.returns-clause-short
returns-clause-short c = short_shown
