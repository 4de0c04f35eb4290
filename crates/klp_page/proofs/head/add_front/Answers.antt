use Rattle.std.proofs.Common.{◌++◌, subst}
use Rattle.klp_markup.specs.Adds.{Adds}
use Rattle.klp_story.specs.End.{end_text}
use Rattle.klp_markup.proofs.AddsLemmas.{adds_append}
use Rattle.klp_page.specs.declared.style.TheConstants.{COUNTS, STORY}
use Rattle.klp_page.specs.Text.{opening_text, title_text, all_refused, compared_text, front_text}
use Rattle.klp_page.proofs.head.add_front.Goals as goal

pub returns : goal.returns
unfolding front_text
returns g c =
    let start = c.args.sheet.now in
    let opening = opening_text c.args.title.now in
    let title = title_text c.args.title.now in
    let ends = end_text c.args.title.now.names.now c.args.catalog.now c.args.view.now c.args.sentences.now (all_refused c.args.title.now) in
    let is_end = subst (λ refused. Adds c.add_opening.new.sheet c.add_end.new.sheet (end_text c.args.title.now.names.now c.args.catalog.now c.args.view.now c.args.sentences.now refused)) c.all_refused.ensures c.add_end.ensures in
    let two = adds_append start c.add_opening.new.sheet c.add_end.new.sheet opening ends c.add_opening.ensures is_end in
    let three = adds_append start c.add_end.new.sheet c.markup.new.self (opening ++ ends) COUNTS.now two c.markup.ensures in
    let four = adds_append start c.markup.new.self c.add_title.new.sheet (opening ++ ends ++ COUNTS.now) title three c.add_title.ensures in
    let compared = compared_text c.args.title.now.differing in
    let five = adds_append start c.add_title.new.sheet c.add_compared.new.sheet (opening ++ ends ++ COUNTS.now ++ title) compared four c.add_compared.ensures in
    adds_append start c.add_compared.new.sheet c.markup-2.new.self (opening ++ ends ++ COUNTS.now ++ title ++ compared) STORY.now five c.markup-2.ensures
