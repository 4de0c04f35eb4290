use Rattle.klp_timeline.proofs.LaggingLemmas.{each_laggard_there, no_laggard_made_up, each_laggard_counted}
use Rattle.klp_timeline.proofs.laws.who_lags_is_named.Goals as goal

pub returns-clause-named : goal.returns-clause-named
returns-clause-named c = each_laggard_there

pub returns-clause-lags : goal.returns-clause-lags
returns-clause-lags c = no_laggard_made_up

pub returns-clause-count : goal.returns-clause-count
returns-clause-count c = λ waits mode. each_laggard_counted waits mode 0
