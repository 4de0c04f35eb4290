use Rattle.klp_model.proofs.InconsistentExamples.{old_code, left, of_another_patch, of_another_function, of_the_patch, below_the_patch, misnamed, out_of_place}
use Rattle.klp_model.proofs.consistency.these_are_inconsistent.Goals as goal

pub returns-clause-old : goal.returns-clause-old
returns-clause-old c = old_code

pub returns-clause-left : goal.returns-clause-left
returns-clause-left c = left

pub returns-clause-of_the_patch : goal.returns-clause-of_the_patch
returns-clause-of_the_patch c = of_the_patch

pub returns-clause-below_the_patch : goal.returns-clause-below_the_patch
returns-clause-below_the_patch c = below_the_patch

pub returns-clause-misnamed : goal.returns-clause-misnamed
returns-clause-misnamed c = misnamed

pub returns-clause-out_of_place : goal.returns-clause-out_of_place
returns-clause-out_of_place c = out_of_place

pub returns-clause-of_another_patch : goal.returns-clause-of_another_patch
returns-clause-of_another_patch c = of_another_patch

pub returns-clause-of_another_function : goal.returns-clause-of_another_function
returns-clause-of_another_function c = of_another_function
