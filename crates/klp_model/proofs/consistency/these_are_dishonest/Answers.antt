use Rattle.klp_model.proofs.InconsistentExamples.{ends_inside, not_loaded, called_outside, no_frame, returned_outside, task_at_the_start}
use Rattle.klp_model.proofs.ObservedExamples.{no_frames_known, still_inside, gone_from_under, called_by_nobody}
use Rattle.klp_model.proofs.consistency.these_are_dishonest.Goals as goal

pub returns-clause-sleep : goal.returns-clause-sleep
returns-clause-sleep c = no_frames_known

pub returns-clause-exit : goal.returns-clause-exit
returns-clause-exit c = still_inside

pub returns-clause-going : goal.returns-clause-going
returns-clause-going c = gone_from_under

pub returns-clause-call : goal.returns-clause-call
returns-clause-call c = called_by_nobody

pub returns-clause-end : goal.returns-clause-end
returns-clause-end c = ends_inside

pub returns-clause-unloaded : goal.returns-clause-unloaded
returns-clause-unloaded c = not_loaded

pub returns-clause-outside : goal.returns-clause-outside
returns-clause-outside c = called_outside

pub returns-clause-no_frame : goal.returns-clause-no_frame
returns-clause-no_frame c = no_frame

pub returns-clause-returns_outside : goal.returns-clause-returns_outside
returns-clause-returns_outside c = returned_outside

pub returns-clause-inside_at_the_start : goal.returns-clause-inside_at_the_start
returns-clause-inside_at_the_start c = task_at_the_start
