use Rattle.std.proofs.Common.{ap, subst, ◌∙◌}
use Rattle.klp_timeline.specs.declared.moment.View.{View}
use Rattle.klp_page.specs.Rows.{last_view}
use Rattle.klp_trace_page.specs.Traced.{IsTracedRow}
use Rattle.klp_trace_page.proofs.record.add_line.Goals as goal

pub returns : goal.returns
returns g c =
    let row = c.in_ok-row.row in
    let moment = c.in_ok-row.moment in
    let before = c.last_view-before.ensures ∙ ap (last_view c.args.opening.now) c.deref.ensures.value in
    record {
      row = row;
      moment = moment;
      is_row = subst (λ text. IsTracedRow c.args.manager.now c.item_row.new.manager (last_view c.args.opening.now c.args.recorded.now.run.items) text c.args.item.now row moment) c.item_text.ensures
          (subst (λ (view : View). IsTracedRow c.args.manager.now c.item_row.new.manager view c.item_text.result.now c.args.item.now row moment) before c.in_ok-row.ensures);
      rows_are = c.in_ok-push.ensures.items;
      run_is = c.in_ok-push-2.ensures.items;
    }
