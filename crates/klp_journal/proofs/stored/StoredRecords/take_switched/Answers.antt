use Rattle.std.proofs.Common.{◌<◌, length, sym, ap, subst, ◌∙◌, arith}
use Rattle.klp_types.specs.declared.record.Record.TheVariants.{TaskRow}
use Rattle.klp_journal.specs.Stored.{StoredList, EndWithRecord}
use Rattle.klp_journal.proofs.StoredLemmas.{is_fewer, within, length-records_in, end_with}
use Rattle.klp_journal.proofs.stored.StoredRecords.take_switched.Goals as goal

-- there is a record
pub switched-requires-clause-record : goal.switched-requires-clause-record
switched-requires-clause-record c =
    let count = length-records_in c.self.inside.count c.self.inside.words.items in
    let many = ap (λ (r : StoredList). length r.rows) c.self.view_is in
    let some : 0 < c.self.inside.count = omega (arith, count, many, c.requires.some) in
    subst EndWithRecord (sym c.as_slice.ensures.value) (end_with c.self.inside.count _ some c.self.invariant.0)

-- the words of the newest are among them
pub shorten-requires : goal.shorten-requires
shorten-requires c = within _ _ c.self.inside.words.items _ (TaskRow c.in-Some.was.task (record c.in-Some.ensures.0 { state = c.in-Some.was.state; mode = c.in-Some.was.mode })) (sym c.as_slice.ensures.value ∙ c.in-Some.ensures.1.1.1.0) c.in-Some.ensures.1.1.1.1 (omega arith)

pub invariant_of-self : goal.invariant_of-self
invariant_of-self c =
    ((is_fewer c.self.inside.count _ _ c.self.inside.words.items c.shorten.new.words.items _ (TaskRow c.in-Some.was.task (record c.in-Some.ensures.0 { state = c.in-Some.was.state; mode = c.in-Some.was.mode })) c.self.invariant.0 c.in-Some.ensures.1.1.1.2 (sym c.as_slice.ensures.value ∙ c.in-Some.ensures.1.1.1.0) c.in-Some.ensures.1.1.1.1 (omega arith) c.shorten.ensures.left).1.0, omega arith, omega arith)

pub returns-clause-newest : goal.returns-clause-newest
returns-clause-newest c = (c.in-Some.ensures.0, (c.in-Some.ensures.1.0, sym c.self.view_is ∙ ap (λ rows. let own : StoredList = record { rows = rows; room = c.self.inside.room } in own) (is_fewer c.self.inside.count _ _ c.self.inside.words.items c.shorten.new.words.items _ (TaskRow c.in-Some.was.task (record c.in-Some.ensures.0 { state = c.in-Some.was.state; mode = c.in-Some.was.mode })) c.self.invariant.0 c.in-Some.ensures.1.1.1.2 (sym c.as_slice.ensures.value ∙ c.in-Some.ensures.1.1.1.0) c.in-Some.ensures.1.1.1.1 (omega arith) c.shorten.ensures.left).1.1))

pub overflow_sub-self : goal.overflow_sub-self
overflow_sub-self c =
    (is_fewer c.self.inside.count _ _ c.self.inside.words.items c.shorten.new.words.items _ (TaskRow c.in-Some.was.task (record c.in-Some.ensures.0 { state = c.in-Some.was.state; mode = c.in-Some.was.mode })) c.self.invariant.0 c.in-Some.ensures.1.1.1.2 (sym c.as_slice.ensures.value ∙ c.in-Some.ensures.1.1.1.0) c.in-Some.ensures.1.1.1.1 (omega arith) c.shorten.ensures.left).0
