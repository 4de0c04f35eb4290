use Rattle.klp_model.proofs.LostLemmas.{each_undoes, five, shared_gone, shared_after}
use Rattle.klp_model.proofs.round_trip_examples.objects_that_share_a_variable_leave_a_trace.Goals as goal

pub returns-clause-undone : goal.returns-clause-undone
returns-clause-undone c = each_undoes

pub returns-clause-before : goal.returns-clause-before
returns-clause-before c = five

pub returns-clause-gone : goal.returns-clause-gone
returns-clause-gone c = shared_gone

pub returns-clause-after : goal.returns-clause-after
returns-clause-after c = shared_after
