use Rattle.klp_page_promises.proofs.words.add_words.Goals as goal

pub returns : goal.returns
returns c = c.words.ensures
