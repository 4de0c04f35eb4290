use Rattle.std.proofs.Common.{sym}
use Rattle.klp_page.proofs.RecordLemmas.{last_seen}
use Rattle.klp_page.proofs.record.last_view.Goals as goal

pub returns-in-Some : goal.returns-in-Some
returns-in-Some c = last_seen c.args.opening.now c.args.run.now c.in-Some.moment.now (sym c.in-Some.ensures.value)
