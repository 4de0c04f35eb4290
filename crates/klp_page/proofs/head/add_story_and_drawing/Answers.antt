use Rattle.std.proofs.Common.{◌++◌}
use Rattle.klp_story.specs.Sentences.{story_text}
use Rattle.klp_markup.proofs.AddsLemmas.{adds_append}
use Rattle.klp_page.specs.declared.style.TheConstants.{RUN, LINES}
use Rattle.klp_page.specs.Text.{differences_text, story_and_drawing}
use Rattle.klp_page.proofs.head.add_story_and_drawing.Goals as goal

pub returns : goal.returns
unfolding story_and_drawing
returns g c =
    let start = c.args.sheet.now in
    let story = story_text c.args.names.now c.args.catalog.now c.args.sentences.now in
    let differences = differences_text c.args.names.now c.args.rows.now in
    let picture = c.args.drawing.now.text in
    let two = adds_append start c.add_story.new.sheet c.add_differences.new.sheet story differences c.add_story.ensures c.add_differences.ensures in
    let three = adds_append start c.add_differences.new.sheet c.markup.new.self (story ++ differences) RUN.now two c.markup.ensures in
    let four = adds_append start c.markup.new.self c.append.new.self (story ++ differences ++ RUN.now) picture three c.append.ensures.adds in
    adds_append start c.append.new.self c.markup-2.new.self (story ++ differences ++ RUN.now ++ picture) LINES.now four c.markup-2.ensures
