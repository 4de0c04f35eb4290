use Rattle.std.proofs.Common.{ℕ, List, sym, subst, ◌∙◌}
use Rattle.klp_page.specs.Pages.{HasRows}
use Rattle.klp_page.proofs.RecordLemmas.{rows_of_all, rows_with_last}
use Rattle.klp_page.proofs.record.record.Goals as goal

pub returns-then-is_empty-clause-rows : goal.returns-then-is_empty-clause-rows
returns-then-is_empty-clause-rows g c =
    let had = c.record_lines.new.recorded in
    let has = subst (λ (line : List ℕ). HasRows c.args.manager.now c.record_lines.new.manager c.args.opening.now c.args.script.now line had.rows.items had.run.items)
    (sym c.bytes-last.ensures.bytes) c.in_ok-record_lines.ensures.done in
    rows_of_all c.args.manager.now c.record_lines.new.manager c.args.opening.now c.args.script.now c.bytes-last.result.now had.rows.items had.run.items has
    (sym c.is_empty.ensures ∙ c.if-is_empty.true)

pub returns-clause-rows : goal.returns-clause-rows
returns-clause-rows g c =
    let had = c.record_lines.new.recorded in
    let more = c.add_line.new.recorded in
    let has = subst (λ (line : List ℕ). HasRows c.args.manager.now c.record_lines.new.manager c.args.opening.now c.args.script.now line had.rows.items had.run.items)
    (sym c.bytes-last.ensures.bytes) c.in_ok-record_lines.ensures.done in
    rows_with_last c.args.manager.now c.record_lines.new.manager c.add_line.new.manager c.args.opening.now c.args.script.now c.bytes-last.result.now
    had.rows.items more.rows.items had.run.items more.run.items has (sym c.is_empty.ensures ∙ c.if-is_empty.false) c.in_ok-add_line.ensures
