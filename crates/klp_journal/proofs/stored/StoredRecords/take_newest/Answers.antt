use Rattle.std.proofs.Common.{sym, ap, ◌∙◌, arith}
use Rattle.klp_journal.specs.Stored.{StoredList}
use Rattle.klp_journal.proofs.StoredLemmas.{is_fewer, within}
use Rattle.klp_journal.proofs.stored.StoredRecords.take_newest.Goals as goal

-- the words of the newest are among them
pub shorten-requires : goal.shorten-requires
shorten-requires c = within _ _ c.self.inside.words.items _ c.in-Some.row (sym c.as_slice.ensures.value ∙ c.in-Some.ensures.read.1.0) c.in-Some.ensures.read.1.1 (omega arith)

pub invariant_of-self : goal.invariant_of-self
invariant_of-self c =
    ((is_fewer c.self.inside.count _ _ c.self.inside.words.items c.shorten.new.words.items _ c.in-Some.row c.self.invariant.0 c.in-Some.ensures.read.1.2 (sym c.as_slice.ensures.value ∙ c.in-Some.ensures.read.1.0) c.in-Some.ensures.read.1.1 (omega arith) c.shorten.ensures.left).1.0, omega arith, omega arith)

pub returns-clause-newest : goal.returns-clause-newest
returns-clause-newest c = sym c.self.view_is ∙ ap (λ rows. let own : StoredList = record { rows = rows; room = c.self.inside.room } in own) (is_fewer c.self.inside.count _ _ c.self.inside.words.items c.shorten.new.words.items _ c.in-Some.row c.self.invariant.0 c.in-Some.ensures.read.1.2 (sym c.as_slice.ensures.value ∙ c.in-Some.ensures.read.1.0) c.in-Some.ensures.read.1.1 (omega arith) c.shorten.ensures.left).1.1

pub overflow_sub-self : goal.overflow_sub-self
overflow_sub-self c =
    (is_fewer c.self.inside.count _ _ c.self.inside.words.items c.shorten.new.words.items _ c.in-Some.row c.self.invariant.0 c.in-Some.ensures.read.1.2 (sym c.as_slice.ensures.value ∙ c.in-Some.ensures.read.1.0) c.in-Some.ensures.read.1.1 (omega arith) c.shorten.ensures.left).0
