use Rattle.std.proofs.Common.{rules}
use Rattle.klp_model.proofs.examples.a_replacement_takes_the_older_patches_out.Goals as goal

pub returns-clause-newer : goal.returns-clause-newer
returns-clause-newer c = search rules

pub returns-clause-withdrawn : goal.returns-clause-withdrawn
returns-clause-withdrawn c = search rules

pub returns-clause-older : goal.returns-clause-older
returns-clause-older c = search rules
