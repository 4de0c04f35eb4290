use Rattle.std.proofs.Common.{◌++◌, sym, subst, ◌∙◌}
use Rattle.klp_markup.specs.Adds.{Adds}
use Rattle.klp_markup.proofs.AddsLemmas.{adds_append}
use Rattle.klp_page.specs.declared.style.TheConstants.{HELD, HELD_END}
use Rattle.klp_markup.specs.Tasks.{each_text}
use Rattle.klp_page.proofs.RowLemmas.{mark_is}
use Rattle.klp_page.proofs.row.add_mark.Goals as goal

pub returns : goal.returns
returns c =
    let start = c.args.sheet.now in
    let holders = each_text c.args.names.now c.args.tasks.now in
    let two = adds_append start c.markup.new.self c.add_each_task.new.sheet HELD.now holders c.markup.ensures c.add_each_task.ensures in
    subst (Adds start c.markup-2.new.self) (mark_is c.args.names.now c.args.tasks.now (sym c.is_empty.ensures ∙ c.if-is_empty.false))
    (adds_append start c.add_each_task.new.sheet c.markup-2.new.self (HELD.now ++ holders) HELD_END.now two c.markup-2.ensures)
