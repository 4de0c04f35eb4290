use Rattle.std.proofs.Common.{◌≤◌, ◌∷◌, [], refl, arith}
use Rattle.klp_journal.proofs.BackLemmas.{too_long}
use Rattle.klp_journal.proofs.examples.words_of_no_record_end_with_none.Goals as goal

pub returns : goal.returns
returns c = λ older last h e. let far : 2 ≤ 1 = too_long (5 ∷ 513 ∷ []) older last 1 refl e in omega (arith, far)
