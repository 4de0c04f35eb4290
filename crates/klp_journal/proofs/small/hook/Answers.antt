use Rattle.std.proofs.Common.{refl}
use Rattle.klp_journal.specs.Decoded.{record_of}
use Rattle.klp_journal.proofs.small.hook.Goals as goal

pub returns : goal.returns
unfolding record_of
returns c = refl
