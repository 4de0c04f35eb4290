use Rattle.klp_page.proofs.FaithfulLemmas.{true_over}
use Rattle.klp_page.proofs.laws.a_page_is_true_to_its_run.Goals as goal

pub returns : goal.returns
returns c = true_over
