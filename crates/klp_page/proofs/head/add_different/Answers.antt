use Rattle.std.proofs.Common.{◌++◌}
use Rattle.std.specs.Prelude.{codes}
use Rattle.klp_markup.proofs.AddsLemmas.{adds_append}
use Rattle.klp_page.specs.Text.{count_text, first_text}
use Rattle.klp_page.proofs.head.add_different.Goals as goal

pub returns : goal.returns
returns c =
    let start = c.args.sheet.now in
    let opens = codes ". <b class=holds>" in
    let counted = count_text c.args.differing.rows (codes " row differs") (codes " rows differ") in
    let two = adds_append start c.markup.new.self c.add_count.new.sheet opens counted c.markup.ensures c.add_count.ensures in
    adds_append start c.add_count.new.sheet c.add_first.new.sheet (opens ++ counted) (first_text c.args.differing.first) two c.add_first.ensures
