use Rattle.klp_console.proofs.AlikeLemmas.{sent_by_the_bytes}
use Rattle.klp_console.proofs.laws.what_stands_is_sent_by_what_was_written.Goals as goal

pub returns : goal.returns
returns c = sent_by_the_bytes
