use Rattle.klp_types.proofs.KeyLemmas.{key_total, key_antisymmetric, tied_if_same, same_key}
use Rattle.klp_types.proofs.laws.keys_are_in_order.Goals as goal

pub returns-clause-total : goal.returns-clause-total
returns-clause-total c = key_total

pub returns-clause-antisymmetric : goal.returns-clause-antisymmetric
returns-clause-antisymmetric c = key_antisymmetric

pub returns-clause-same : goal.returns-clause-same
returns-clause-same c = tied_if_same

pub returns-clause-one : goal.returns-clause-one
returns-clause-one c = same_key
