use Rattle.klp_catalog_text.proofs.SpelledLemmas.{script_read}
use Rattle.klp_catalog_text.proofs.laws.scripts_are_read_back.Goals as goal

pub returns : goal.returns
returns c = script_read
