use Rattle.std.proofs.Common.{ap, subst, ◌∙◌}
use Rattle.std.specs.Prelude.{Some, IfOk}
use Rattle.klp_page.specs.declared.head.Differing.{Differing}
use Rattle.klp_page.specs.Pages.{IsPageOfRun}
use Rattle.klp_trace_page.specs.Pages.{differing_in}
use Rattle.klp_trace_page.proofs.TracePageLemmas.{played}
use Rattle.klp_trace_page.proofs.page.paged.Goals as goal

pub returns : goal.returns
returns g c =
    let left = c.record_trace.new.manager in
    let opening = c.view_of-opening.result in
    let rows = c.in_ok-recorded.recorded.rows.items in
    let run = c.in_ok-recorded.recorded.run.items in
    played c.args.manager.now left c.args.name.now c.args.names.now c.args.set_up c.args.trace.now c.args.items.now opening rows run c.page_of.result (λ page. page.items)
    c.view_of-opening.ensures c.in_ok-recorded.ensures
    (subst (λ (differing : Differing). IfOk c.page_of.result (λ page. IsPageOfRun left.managed.catalog c.args.name.now c.args.names.now opening rows run (Some differing) page.items))
    (c.differing_in-differing.ensures ∙ ap (differing_in c.args.set_up) c.deref.ensures.value) c.page_of.ensures)
