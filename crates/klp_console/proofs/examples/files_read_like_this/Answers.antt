use Rattle.klp_console.proofs.AnswerExamples.{read_patch_state, read_functions, read_of_the_module, read_second, read_mark, read_variable}
use Rattle.klp_console.proofs.examples.files_read_like_this.Goals as goal

pub returns-clause-patch_state : goal.returns-clause-patch_state
returns-clause-patch_state c = read_patch_state

pub returns-clause-functions : goal.returns-clause-functions
returns-clause-functions c = read_functions

pub returns-clause-of_the_module : goal.returns-clause-of_the_module
returns-clause-of_the_module c = read_of_the_module

pub returns-clause-second : goal.returns-clause-second
returns-clause-second c = read_second

pub returns-clause-mark : goal.returns-clause-mark
returns-clause-mark c = read_mark

pub returns-clause-variable : goal.returns-clause-variable
returns-clause-variable c = read_variable
