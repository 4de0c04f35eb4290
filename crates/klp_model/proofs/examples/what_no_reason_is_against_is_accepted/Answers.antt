use Rattle.std.proofs.Common.{rules, refl}
use Rattle.std.specs.FinMap as finite
use Rattle.klp_types.specs.World.{key_cmp, ShadowValue}
use Rattle.klp_model.proofs.examples.what_no_reason_is_against_is_accepted.Goals as goal

pub returns-clause-enabled : goal.returns-clause-enabled
returns-clause-enabled c = rw (finite.len-empty key_cmp ShadowValue) refl

pub returns-clause-reversed : goal.returns-clause-reversed
returns-clause-reversed c = rw (finite.len-empty key_cmp ShadowValue) refl

pub returns-clause-disabled : goal.returns-clause-disabled
returns-clause-disabled c = rw (finite.len-empty key_cmp ShadowValue) refl

pub returns-clause-polled : goal.returns-clause-polled
returns-clause-polled c = rw (finite.len-empty key_cmp ShadowValue) refl

pub returns-clause-comes : goal.returns-clause-comes
returns-clause-comes c = rw (finite.len-empty key_cmp ShadowValue) refl

pub returns-clause-goes : goal.returns-clause-goes
returns-clause-goes c = rw (finite.len-empty key_cmp ShadowValue) refl

pub returns-clause-ends : goal.returns-clause-ends
returns-clause-ends c = search rules
