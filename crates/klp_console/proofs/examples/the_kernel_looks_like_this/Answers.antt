use Rattle.klp_console.proofs.AnswerExamples.{looked_text, looked_stack, looked_nop, looked_older, looked_original, looked_runs, looked_runs_of_two}
use Rattle.klp_console.proofs.examples.the_kernel_looks_like_this.Goals as goal

pub returns-clause-text : goal.returns-clause-text
returns-clause-text c = looked_text

pub returns-clause-stack : goal.returns-clause-stack
returns-clause-stack c = looked_stack

pub returns-clause-nop : goal.returns-clause-nop
returns-clause-nop c = looked_nop

pub returns-clause-older : goal.returns-clause-older
returns-clause-older c = looked_older

pub returns-clause-original : goal.returns-clause-original
returns-clause-original c = looked_original

pub returns-clause-runs : goal.returns-clause-runs
returns-clause-runs c = looked_runs

pub returns-clause-runs_of_two : goal.returns-clause-runs_of_two
returns-clause-runs_of_two c = looked_runs_of_two
