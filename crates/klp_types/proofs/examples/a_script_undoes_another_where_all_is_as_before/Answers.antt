use Rattle.klp_types.proofs.UndoesLemmas.{removed_again, there_before, left_behind, taken_along}
use Rattle.klp_types.proofs.examples.a_script_undoes_another_where_all_is_as_before.Goals as goal

pub returns-clause-undone : goal.returns-clause-undone
returns-clause-undone c = removed_again

pub returns-clause-there_before : goal.returns-clause-there_before
returns-clause-there_before c = there_before

pub returns-clause-of_the_first : goal.returns-clause-of_the_first
returns-clause-of_the_first c = left_behind

pub returns-clause-of_the_second : goal.returns-clause-of_the_second
returns-clause-of_the_second c = taken_along
