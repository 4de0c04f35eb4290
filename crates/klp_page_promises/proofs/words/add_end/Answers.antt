use Rattle.klp_page_promises.proofs.words.add_end.Goals as goal

pub returns : goal.returns
returns g c = c.add_end.ensures
