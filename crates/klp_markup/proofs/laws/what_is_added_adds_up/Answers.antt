use Rattle.klp_markup.proofs.AddsLemmas.{adds_append, adds_nothing}
use Rattle.klp_markup.proofs.laws.what_is_added_adds_up.Goals as goal

pub returns-clause-adds_up : goal.returns-clause-adds_up
returns-clause-adds_up c = adds_append

pub returns-clause-nothing : goal.returns-clause-nothing
returns-clause-nothing c = adds_nothing
