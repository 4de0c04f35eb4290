use Rattle.std.proofs.Common.{ap, subst, ◌∙◌}
use Rattle.klp_timeline.specs.declared.moment.View.{View}
use Rattle.klp_page.specs.Rows.{IsScriptRow, last_view}
use Rattle.klp_page.proofs.record.add_line.Goals as goal

pub returns : goal.returns
returns g c =
    let row = c.in_ok-row.row in
    let moment = c.in_ok-row.moment in
    let before = c.last_view-before.ensures ∙ ap (last_view c.args.opening.now) c.deref.ensures.value in
    record {
      row = row;
      moment = moment;
      is_row = subst (λ (view : View). IsScriptRow c.args.manager.now c.record_line.new.manager view c.args.line.now row moment) before c.in_ok-row.ensures;
      rows_are = c.in_ok-push.ensures.items;
      run_is = c.in_ok-push-2.ensures.items;
    }
