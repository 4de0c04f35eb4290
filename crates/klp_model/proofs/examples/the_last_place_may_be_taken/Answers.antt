use Rattle.std.proofs.Common.{refl}
use Rattle.std.specs.FinMap as finite
use Rattle.klp_types.specs.World.{key_cmp, ShadowValue}
use Rattle.klp_model.proofs.examples.the_last_place_may_be_taken.Goals as goal

pub returns-clause-enabling : goal.returns-clause-enabling
returns-clause-enabling c = rw (finite.len-empty key_cmp ShadowValue) refl

pub returns-clause-unloaded : goal.returns-clause-unloaded
returns-clause-unloaded c = rw (finite.len-empty key_cmp ShadowValue) refl

pub returns-clause-reversing : goal.returns-clause-reversing
returns-clause-reversing c = rw (finite.len-empty key_cmp ShadowValue) refl

pub returns-clause-coming : goal.returns-clause-coming
returns-clause-coming c = rw (finite.len-empty key_cmp ShadowValue) refl

pub returns-clause-coming_while_moving : goal.returns-clause-coming_while_moving
returns-clause-coming_while_moving c = rw (finite.len-empty key_cmp ShadowValue) refl

pub returns-clause-going_while_moving : goal.returns-clause-going_while_moving
returns-clause-going_while_moving c = rw (finite.len-empty key_cmp ShadowValue) refl

pub returns-clause-completing : goal.returns-clause-completing
returns-clause-completing c = rw (finite.len-empty key_cmp ShadowValue) refl
