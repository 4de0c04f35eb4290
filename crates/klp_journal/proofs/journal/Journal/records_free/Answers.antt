use Rattle.std.proofs.Common.{◌-◌, sym, ap, ◌∙◌, subst, ◌≤◌}
use Rattle.klp_types.specs.declared.limits.TheConstants.{MAX_JOURNAL_RECORDS}
use Rattle.klp_journal.proofs.GroupLemmas.{records_in-groups}
use Rattle.klp_journal.proofs.journal.Journal.records_free.Goals as goal

pub returns-clause-value : goal.returns-clause-value
returns-clause-value c =
    ap (λ n. MAX_JOURNAL_RECORDS - n) (c.older.ensures.value ∙ sym (records_in-groups c.args.self.now c.args.log.now.older c.requires.all))

pub returns-clause-limit : goal.returns-clause-limit
returns-clause-limit c =
    subst (λ n. n ≤ MAX_JOURNAL_RECORDS) (c.older.ensures.value ∙ sym (records_in-groups c.args.self.now c.args.log.now.older c.requires.all)) c.older.ensures.limit
