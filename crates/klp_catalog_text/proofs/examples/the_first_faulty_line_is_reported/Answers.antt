use Rattle.klp_catalog_text.proofs.TextExamples.{cut}
use Rattle.klp_catalog_text.proofs.examples.the_first_faulty_line_is_reported.Goals as goal

pub returns-clause-cut : goal.returns-clause-cut
returns-clause-cut c = cut
