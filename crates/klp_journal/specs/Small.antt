-- The kinds of record that events log most.
use Rattle.std.specs.Prelude.{[], ◌∷◌, ◌++◌}
use Rattle.klp_types.specs.declared.record.Record.{Record}
use Rattle.klp_types.specs.declared.record.Record.TheVariants.{TaskRow, StackEntry, HookFlag}
use Rattle.klp_types.specs.declared.task.Task.{Task}
use Rattle.klp_types.specs.Records.{RecordList}
use Rattle.klp_journal.specs.declared.small.SmallRecord.{SmallRecord}
use Rattle.klp_journal.specs.declared.small.SmallRecord.TheVariants.{Entry, Hook, Resting}
use Rattle.klp_journal.specs.declared.switched.SwitchedTask.{SwitchedTask}

-- the record that a small one stands for
abbrev pub row_of : SmallRecord → Record
row_of (Entry site patch was) = StackEntry site patch was
row_of (Hook site was) = HookFlag site was
row_of (Resting task state mode) = TaskRow task (record { state = state; mode = mode; frames = [] })

-- The log with one more record: the row of a task whose state and mode were others, and that is this row otherwise.
abbrev pub with_switched : RecordList → SwitchedTask → Task → RecordList
with_switched log was now =
    record log { logged = log.logged ++ TaskRow was.task (record now { state = was.state; mode = was.mode }) ∷ [] }
