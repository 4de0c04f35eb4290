use Rattle.std.proofs.Common.{◌≡◌, Bool, true, List, length, refl, sym, ap, subst, ◌∙◌, arith}
use Rattle.klp_types.specs.declared.record.Record.TheVariants.{TaskRow}
use Rattle.klp_types.specs.declared.task.Task.{Task}
use Rattle.klp_model.specs.Task.{Tasks}
use Rattle.klp_tasks.specs.Changes.{changed_row}
use Rattle.klp_types.specs.Records.{RecordList}
use Rattle.klp_journal.specs.Small.{row_of}
use Rattle.klp_manager_state.specs.Rows.{rows_in, are_due}
use Rattle.klp_manager_state.specs.Undoing.{IsOneBack}
use Rattle.klp_manager_state.proofs.UndoLemmas.{newest_is_due, one_back}
use Rattle.klp_manager_state.proofs.state.ManagerState.put_newest_back.Goals as goal

pub put_small_back-requires-clause-due : goal.put_small_back-requires-clause-due
put_small_back-requires-clause-due c =
    newest_is_due (rows_in c.args.self.now) c.args.self.now.log.logged c.take_small.new.self.logged (row_of c.in-Some.newest)
    (ap (λ (l : RecordList). l.logged) c.in-Some.ensures.newest) c.requires.due

pub returns-in-Some-clause-one : goal.returns-in-Some-clause-one
returns-in-Some-clause-one c = λ _.
    one_back c.args.self.now c.put_small_back.new.self c.take_small.new.self (row_of c.in-Some.newest) c.in-Some.ensures.newest
    c.put_small_back.ensures.rows c.put_small_back.ensures.modules c.put_small_back.ensures.log c.requires.objects c.requires.due

pub returns-in-Some-take_switched-clause-one : goal.returns-in-Some-take_switched-clause-one
returns-in-Some-take_switched-clause-one c = λ _.
    let before = c.args.self.now in
    let was = c.in-Some-take_switched.was in
    let found = c.in-Some-take_switched.ensures.newest in
    one_back before _ c.take_switched.new.log (TaskRow was.task (record found.0 { state = was.state; mode = was.mode }))
    (sym c.in_default.ensures.unchanged ∙ found.1.1)
    (ap (λ (tasks : Tasks). record (rows_in before) { tasks = tasks })
    (c.put_switched.ensures ∙ ap (changed_row before.tasks was.task (λ (t : Task). record t { state = was.state; mode = was.mode })) found.1.0))
    (ap (λ (l : List Bool). record before.modules { loaded = l }) c.requires.modules) refl c.requires.objects c.requires.due

pub put_other_back-requires-clause-some : goal.put_other_back-requires-clause-some
put_other_back-requires-clause-some c =
    let same = c.in_default-take_switched.ensures.unchanged ∙ c.in_default.ensures.unchanged in
    omega (arith, ap (λ (l : RecordList). length l.logged) same, c.logged.ensures.value)

pub put_other_back-requires-clause-due : goal.put_other_back-requires-clause-due
put_other_back-requires-clause-due c =
    let same = c.in_default-take_switched.ensures.unchanged ∙ c.in_default.ensures.unchanged in
    subst (λ (l : RecordList). are_due (rows_in c.args.self.now) l.logged ≡ true) (sym same) c.requires.due

pub returns-clause-one : goal.returns-clause-one
returns-clause-one c = λ _.
    let same = c.in_default-take_switched.ensures.unchanged ∙ c.in_default.ensures.unchanged in
    subst (λ (l : RecordList). IsOneBack (record c.args.self.now { log = l }) c.put_other_back.new.self) same c.put_other_back.ensures.one
