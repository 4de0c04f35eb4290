use Rattle.std.proofs.Common.{ap}
use Rattle.klp_types.specs.Records.{RecordList}
use Rattle.klp_manager_state.specs.Rows.{rows_in}
use Rattle.klp_manager_state.proofs.UndoLemmas.{newest_is_due, one_back}
use Rattle.klp_manager_state.proofs.state.ManagerState.put_other_back.Goals as goal

pub put_back-requires-clause-due : goal.put_back-requires-clause-due
put_back-requires-clause-due c =
    newest_is_due (rows_in c.args.self.now) c.args.self.now.log.logged c.take_newest.new.self.logged c.in-Some.newest
    (ap (λ (l : RecordList). l.logged) c.in-Some.ensures.newest) c.requires.due

pub returns-clause-one : goal.returns-clause-one
returns-clause-one c =
    one_back c.args.self.now c.put_back.new.self c.take_newest.new.self c.in-Some.newest c.in-Some.ensures.newest
    c.put_back.ensures.rows c.put_back.ensures.modules c.put_back.ensures.log c.requires.objects c.requires.due
