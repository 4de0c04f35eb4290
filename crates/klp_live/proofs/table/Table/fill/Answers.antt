use Rattle.std.proofs.Common.{arith}
use Rattle.klp_manager_state.specs.Managed.{setting_of}
use Rattle.klp_live.proofs.Tables.{all_rows, all_states, tasks_stand}
use Rattle.klp_live.proofs.table.Table.fill.Goals as goal

pub returns : goal.returns
returns g c =
    let m = (g.M.Machine.journaled c.args.machine.now) in
    let tasks = tasks_stand m c.mark-for_its_clause.ensures.well_formed (c.states_stay_allowed.ensures.run (setting_of m.managed)) in
    record {
      height = c.fill_rows.ensures.count;
      width = c.fill_states.ensures.count;
      sites = all_rows (setting_of m.managed) m.managed.state c.fill_rows.new.rows c.fill_rows.ensures.count (omega (arith, c.sites-sites.ensures.count, c.sites-sites.ensures.limit)) c.fill_rows.ensures.rows;
      tasks = all_states m.managed.state c.fill_states.new.states c.fill_states.ensures.count tasks c.fill_states.ensures.states;
    }
