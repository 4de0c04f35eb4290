use Rattle.klp_types.proofs.PaddedLemmas.{filled}
use Rattle.klp_types.proofs.shadow.ShadowValue.new.Goals as goal

pub invariant_of-result : goal.invariant_of-result
invariant_of-result c = filled 64 0 c.copy_from_slice.new.self c.args.bytes.now c.copy_from_slice.ensures.after
