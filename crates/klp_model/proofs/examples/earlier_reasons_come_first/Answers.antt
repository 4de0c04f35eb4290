use Rattle.std.proofs.Common.{rules, refl}
use Rattle.std.specs.FinMap as finite
use Rattle.klp_types.specs.World.{key_cmp, ShadowValue}
use Rattle.klp_model.proofs.examples.earlier_reasons_come_first.Goals as goal

pub returns-clause-later_symbol : goal.returns-clause-later_symbol
returns-clause-later_symbol c = rw (finite.len-empty key_cmp ShadowValue) refl

pub returns-clause-pinned : goal.returns-clause-pinned
returns-clause-pinned c = search rules
