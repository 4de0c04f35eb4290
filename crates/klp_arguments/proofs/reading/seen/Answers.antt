use Rattle.klp_arguments.proofs.CommandLemmas.{seen_by-found}
use Rattle.klp_arguments.proofs.reading.seen.Goals as goal
