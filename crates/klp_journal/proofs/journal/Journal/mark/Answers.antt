use Rattle.std.proofs.Common.{length, ap, arith}
use Rattle.std.proofs.lemmas.List.{length-map}
use Rattle.klp_journal.specs.AcceptedEvents.{accepted_of}
use Rattle.klp_journal.proofs.GroupLemmas.{length-groups}
use Rattle.klp_journal.proofs.journal.Journal.mark.Goals as goal

pub returns-clause-groups : goal.returns-clause-groups
returns-clause-groups c = λ rows.
    omega (arith, length-groups c.args.self.now rows, ap length c.self.view_is, length-map c.self.inside.events.items accepted_of, c.len.ensures)
