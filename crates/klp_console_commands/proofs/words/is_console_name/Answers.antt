use Rattle.std.proofs.Common.{◌≡◌, ◌==◌, false, length, rules, sym, ◌∙◌}
use borrow.Author.Tests.{tests}
use Rattle.std.specs.List.{list_all}
use Rattle.std.proofs.lemmas.Iterator.{YieldsList-from_slice}
use Rattle.std.proofs.lemmas.Iterator.Search.{all_from_yields_List}
use Rattle.klp_console_commands.specs.Words.{is_name_byte}
use Rattle.klp_console_commands.proofs.WordLemmas.{length_test}
use Rattle.klp_console_commands.proofs.words.is_console_name.Goals as goal

pub returns-then-not-is_empty : goal.returns-then-not-is_empty
returns-then-not-is_empty c =
    let word = c.args.word.now in
    let bytes = all_from_yields_List is_name_byte _ _ c.all.result c.all.ensures.ran (YieldsList-from_slice word cc) (λ x b q k. search (rules, tests)) in
    let some : (length word == 0) ≡ false = search rules in
    bytes ∙ sym (length_test (length word) (list_all is_name_byte word) some)
