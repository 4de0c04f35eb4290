use Rattle.klp_catalog_text.proofs.TextExamples.{small, longer}
use Rattle.klp_catalog_text.proofs.examples.texts_say_this.Goals as goal

pub returns-clause-small : goal.returns-clause-small
returns-clause-small c = small

pub returns-clause-longer : goal.returns-clause-longer
returns-clause-longer c = longer
