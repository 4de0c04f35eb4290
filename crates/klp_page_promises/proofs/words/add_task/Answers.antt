use Rattle.klp_page_promises.proofs.words.add_task.Goals as goal

pub returns : goal.returns
returns c = c.add_task.ensures
