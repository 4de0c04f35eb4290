use Rattle.std.proofs.Common.{◌++◌}
use Rattle.std.specs.Prelude.{codes}
use Rattle.klp_markup.specs.Escaped.{words_text}
use Rattle.klp_markup.specs.Names.{owner_text}
use Rattle.klp_markup.proofs.AddsLemmas.{adds_append}
use Rattle.klp_markup.proofs.names.add_owner.Goals as goal

pub returns : goal.returns
unfolding owner_text
returns c =
    let object = words_text c.args.object.now in
    adds_append c.args.sheet.now c.markup.new.self c.markup-2.new.self (codes ".klp.<wbr>sym.<wbr>") (object ++ codes ".<wbr>") c.markup.ensures
    (adds_append c.markup.new.self c.words.new.self c.markup-2.new.self object (codes ".<wbr>") c.words.ensures c.markup-2.ensures)
