use Rattle.klp_types.proofs.EntryLemmas.{entries-of_patches, entries-own, entries-have_functions}
use Rattle.klp_types.proofs.laws.entries_are_of_their_patches.Goals as goal

pub returns-clause-installed : goal.returns-clause-installed
returns-clause-installed c = entries-of_patches

pub returns-clause-own : goal.returns-clause-own
returns-clause-own c = entries-own

pub returns-clause-functions : goal.returns-clause-functions
returns-clause-functions c = entries-have_functions
