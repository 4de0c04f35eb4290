use Rattle.std.proofs.Common.{None, arith, ◌∙◌}
use Rattle.std.proofs.lemmas.List.{length-set}
use Rattle.klp_model.specs.Rows.{row_of}
use Rattle.klp_manager_state.specs.Managed.{setting_of}
use Rattle.klp_live.proofs.Tables.{set_next}
use Rattle.klp_live.proofs.change.fill_rows.Goals as goal

pub loop-site-preserved : goal.loop-site-preserved
loop-site-preserved g c =
    let len = c.loop-site.invariant.0 in
    let before = c.loop-site-test.true in (
      length-set c.loop-site.rows c.loop-site.site _ ∙ len,
      set_next c.loop-site.rows None (row_of (setting_of (g.M.Machine.journaled c.args.machine.now).managed) (g.M.Machine.journaled c.args.machine.now).managed.state) c.loop-site.site _ (omega arith) c.row.ensures c.loop-site.invariant.1,
    )
