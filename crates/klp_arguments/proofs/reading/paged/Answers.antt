use Rattle.klp_arguments.proofs.CommandLemmas.{paged_by-trace}
use Rattle.klp_arguments.proofs.reading.paged.Goals as goal

pub returns-in-Some-Some-default-None : goal.returns-in-Some-Some-default-None
returns-in-Some-Some-default-None c =
    let found = c.in-Some-Some-default-None in
    paged_by-trace _ _ _ _ _ _ _ found.ensures found.ensures' c.value_of-script.ensures (rw found.is-3 at c.value_of-names.ensures)
