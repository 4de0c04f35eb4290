use Rattle.klp_words.proofs.WordLemmas.{parts_is}
use Rattle.klp_words.proofs.spelling.spelling_behind_prefix.Goals as goal

pub returns : goal.returns
returns c =
    parts_is c.args.text.now _ _ _ _ _ c.cut.ensures.before c.cut.ensures.after c.cut-2.ensures.before c.cut-2.ensures.after c.spelling_of_parts.ensures
