use Rattle.std.proofs.Common.{◌++◌, subst}
use Rattle.std.specs.Fmt.{decimal}
use Rattle.klp_markup.specs.Adds.{Adds}
use Rattle.klp_markup.specs.Escaped.{escaped}
use Rattle.klp_markup.proofs.AddsLemmas.{adds_append}
use Rattle.klp_page.specs.declared.style.TheConstants.{LINE, ANSWER, ANSWER_END}
use Rattle.klp_names.specs.Names.{since_start}
use Rattle.klp_page.specs.Text.{mark_text, kernel_text, time_text, shown_text}
use Rattle.klp_page.proofs.row.add_shown.Goals as goal

pub returns : goal.returns
unfolding shown_text
returns c =
    let start = c.args.sheet.now in
    let number = decimal c.args.number ++ time_text (since_start c.args.names.now.timed c.args.number) in
    let line = escaped c.args.row.now.line.items in
    let answer = escaped c.args.row.now.answer.items in
    let holders = mark_text c.args.names.now c.args.row.now.holders.items in
    let is_line = subst (λ text. Adds c.markup.new.self c.text.new.self (escaped text)) c.deref.ensures.value c.text.ensures in
    let is_answer = subst (λ text. Adds c.markup-2.new.self c.text-2.new.self (escaped text)) c.deref-2.ensures.value c.text-2.ensures in
    let is_mark = subst (λ tasks. Adds c.add_kernel.new.sheet c.add_mark.new.sheet (mark_text c.args.names.now tasks)) c.deref-3.ensures.value c.add_mark.ensures in
    let two = adds_append start c.add_number.new.sheet c.markup.new.self number LINE.now c.add_number.ensures c.markup.ensures in
    let three = adds_append start c.markup.new.self c.text.new.self (number ++ LINE.now) line two is_line in
    let four = adds_append start c.text.new.self c.markup-2.new.self (number ++ LINE.now ++ line) ANSWER.now three c.markup-2.ensures in
    let five = adds_append start c.markup-2.new.self c.text-2.new.self (number ++ LINE.now ++ line ++ ANSWER.now) answer four is_answer in
    let six = adds_append start c.text-2.new.self c.markup-3.new.self (number ++ LINE.now ++ line ++ ANSWER.now ++ answer) ANSWER_END.now five c.markup-3.ensures in
    let kernel = kernel_text c.args.row.now in
    let seven = adds_append start c.markup-3.new.self c.add_kernel.new.sheet (number ++ LINE.now ++ line ++ ANSWER.now ++ answer ++ ANSWER_END.now) kernel six c.add_kernel.ensures in
    adds_append start c.add_kernel.new.sheet c.add_mark.new.sheet (number ++ LINE.now ++ line ++ ANSWER.now ++ answer ++ ANSWER_END.now ++ kernel) holders seven is_mark
