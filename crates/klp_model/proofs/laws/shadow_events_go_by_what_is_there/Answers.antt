use Rattle.klp_model.proofs.ShadowReplyLemmas.{in_the_way, takes_room, added, found, takes_room_if_new, got, one_freed, none_freed, gone, all_gone, others}
use Rattle.klp_model.proofs.laws.shadow_events_go_by_what_is_there.Goals as goal

pub returns-clause-exists : goal.returns-clause-exists
returns-clause-exists c = in_the_way

pub returns-clause-room : goal.returns-clause-room
returns-clause-room c = takes_room

pub returns-clause-added : goal.returns-clause-added
returns-clause-added c = added

pub returns-clause-found : goal.returns-clause-found
returns-clause-found c = found

pub returns-clause-room_to_add : goal.returns-clause-room_to_add
returns-clause-room_to_add c = takes_room_if_new

pub returns-clause-got : goal.returns-clause-got
returns-clause-got c = got

pub returns-clause-one : goal.returns-clause-one
returns-clause-one c = one_freed

pub returns-clause-none : goal.returns-clause-none
returns-clause-none c = none_freed

pub returns-clause-gone : goal.returns-clause-gone
returns-clause-gone c = gone

pub returns-clause-all : goal.returns-clause-all
returns-clause-all c = all_gone

pub returns-clause-others : goal.returns-clause-others
returns-clause-others c = others
