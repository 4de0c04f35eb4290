use Rattle.std.proofs.Common.{length, sym, ap, ◌∙◌}
use Rattle.klp_journal.specs.Stored.{StoredList}
use Rattle.klp_journal.proofs.StoredLemmas.{length-records_in}
use Rattle.klp_journal.proofs.stored.StoredRecords.count.Goals as goal

pub returns-clause-value : goal.returns-clause-value
returns-clause-value c =
    sym (length-records_in c.self.inside.count c.self.inside.words.items) ∙ ap (λ (r : StoredList). length r.rows) c.self.view_is
