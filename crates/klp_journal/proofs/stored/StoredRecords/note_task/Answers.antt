use Rattle.std.proofs.Common.{◌≡◌, ◌+◌, ◌++◌, [], ◌∷◌, suc, length, sym, ap, subst, ◌∙◌, arith}
use Rattle.klp_types.specs.declared.record.Record.TheVariants.{TaskRow}
use Rattle.klp_journal.specs.Stored.{StoredList, AreWords, records_in}
use Rattle.klp_journal.proofs.StoredLemmas.{are_more, records_more, length-records_in, few_words}
use Rattle.klp_journal.proofs.stored.StoredRecords.note_task.Goals as goal

-- there is room for the words of one record more
pub copy_task-requires-clause-spare : goal.copy_task-requires-clause-spare
copy_task-requires-clause-spare c =
    let words = c.self.inside.words.items in
    let count = length-records_in c.self.inside.count words in
    let many = ap (λ (r : StoredList). length r.rows) c.self.view_is in
    let room = ap (λ (r : StoredList). r.room) c.self.view_is in
    let few = few_words c.self.inside.count words c.self.invariant.0 in
    omega arith

pub invariant_of-self : goal.invariant_of-self
invariant_of-self c =
    let words = c.self.inside.words.items in
    let count = length-records_in c.self.inside.count words in
    let many = ap (λ (r : StoredList). length r.rows) c.self.view_is in
    let room = ap (λ (r : StoredList). r.room) c.self.view_is in
    let more : suc c.self.inside.count ≡ c.self.inside.count + 1 = omega arith in (
      subst (λ n. AreWords n c.copy_task.new.words.items) more (subst (AreWords (suc c.self.inside.count)) (sym c.copy_task.ensures.written) (are_more c.self.inside.count words (TaskRow c.args.task c.args.was.now) c.copy_task.ensures.range c.self.invariant.0)),
      omega arith,
      omega arith,
    )

pub returns : goal.returns
returns c =
    let words = c.self.inside.words.items in
    let more : suc c.self.inside.count ≡ c.self.inside.count + 1 = omega arith in
    ap (λ rows. let list : StoredList = record { rows = rows; room = c.self.inside.room } in list)
    (ap (λ n. records_in n c.copy_task.new.words.items) (sym more) ∙ ap (records_in (suc c.self.inside.count)) c.copy_task.ensures.written
    ∙ records_more c.self.inside.count words (TaskRow c.args.task c.args.was.now) c.copy_task.ensures.range)
    ∙ ap (λ (list : StoredList). record list { rows = list.rows ++ (TaskRow c.args.task c.args.was.now) ∷ [] }) c.self.view_is
