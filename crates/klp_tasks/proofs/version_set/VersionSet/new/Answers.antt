use Rattle.klp_tasks.proofs.MemberLemmas.{in_none}
use Rattle.klp_tasks.proofs.version_set.VersionSet.new.Goals as goal

pub returns : goal.returns
returns c = in_none
