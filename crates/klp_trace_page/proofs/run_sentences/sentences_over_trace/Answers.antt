use Rattle.klp_trace_page.proofs.run_sentences.sentences_over_trace.Goals as goal

-- the manager is that of the catalog's plan
pub returns : goal.returns
returns c =
    let over = c.in_ok-over_text.ensures in
    record { plan = over.plan; planned = over.planned; booted = over.over.booted; is_booted = over.over.is_booted; are_sentences = rw c.in_ok-found.was at over.over.came_to }
