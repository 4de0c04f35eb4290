use Rattle.klp_page_promises.proofs.words.add_line_time.Goals as goal

pub returns : goal.returns
returns c = c.add_line_time.ensures
