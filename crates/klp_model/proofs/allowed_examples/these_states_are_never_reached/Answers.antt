use Rattle.klp_model.proofs.AllowedExamples.{no_kernel, unknown, twice, twice_apart, moves_away, not_replaced, under_another, above_another, lacks_symbol, moves_at_rest, below_rest, rests_in_transition, beyond_the_target, frames_awake, no_such_frame, second_task, full, objects, rows, flags}
use Rattle.klp_model.proofs.allowed_examples.these_states_are_never_reached.Goals as goal

pub returns-clause-no_kernel : goal.returns-clause-no_kernel
returns-clause-no_kernel c = no_kernel

pub returns-clause-unknown : goal.returns-clause-unknown
returns-clause-unknown c = unknown

pub returns-clause-twice : goal.returns-clause-twice
returns-clause-twice c = twice

pub returns-clause-twice_apart : goal.returns-clause-twice_apart
returns-clause-twice_apart c = twice_apart

pub returns-clause-moves_away : goal.returns-clause-moves_away
returns-clause-moves_away c = moves_away

pub returns-clause-not_replaced : goal.returns-clause-not_replaced
returns-clause-not_replaced c = not_replaced

pub returns-clause-under_another : goal.returns-clause-under_another
returns-clause-under_another c = under_another

pub returns-clause-above_another : goal.returns-clause-above_another
returns-clause-above_another c = above_another

pub returns-clause-lacks_symbol : goal.returns-clause-lacks_symbol
returns-clause-lacks_symbol c = lacks_symbol

pub returns-clause-moves_at_rest : goal.returns-clause-moves_at_rest
returns-clause-moves_at_rest c = moves_at_rest

pub returns-clause-rests_in_transition : goal.returns-clause-rests_in_transition
returns-clause-rests_in_transition c = rests_in_transition

pub returns-clause-beyond_the_target : goal.returns-clause-beyond_the_target
returns-clause-beyond_the_target c = beyond_the_target

pub returns-clause-frames_awake : goal.returns-clause-frames_awake
returns-clause-frames_awake c = frames_awake

pub returns-clause-no_such_frame : goal.returns-clause-no_such_frame
returns-clause-no_such_frame c = no_such_frame

pub returns-clause-second_task : goal.returns-clause-second_task
returns-clause-second_task c = second_task

pub returns-clause-full : goal.returns-clause-full
returns-clause-full c = full

pub returns-clause-objects : goal.returns-clause-objects
returns-clause-objects c = objects

pub returns-clause-rows : goal.returns-clause-rows
returns-clause-rows c = rows

pub returns-clause-flags : goal.returns-clause-flags
returns-clause-flags c = flags

pub returns-clause-below_rest : goal.returns-clause-below_rest
returns-clause-below_rest c = below_rest
