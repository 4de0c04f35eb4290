use Rattle.std.proofs.Common.{List, ap, subst, ◌∙◌}
use Rattle.std.specs.Str.Lines.{lines}
use Rattle.klp_watch.specs.declared.observed.Observed.{Observed}
use Rattle.klp_timeline.specs.Sentences.{sentences_of}
use Rattle.klp_trace_page.specs.Traced.{AreTraced}
use Rattle.klp_trace_page.proofs.run_sentences.run_sentences.Goals as goal

-- the items are those of the trace that was read
pub returns : goal.returns
returns g c =
    let left = c.record_trace.new.manager in
    let opening = c.view_of-opening.result in
    let rows = c.in_ok-recorded.recorded.rows.items in
    let run = c.in_ok-recorded.recorded.run.items in
    record {
      items = c.in_ok-read.read.items.items;
      times = c.in_ok-read.read.times.items;
      read = c.in_ok-read.ensures.read;
      opening = opening;
      run = run;
      rows = rows;
      left = left;
      begins = c.view_of-opening.ensures;
      traced = subst (λ (items : List Observed). AreTraced c.args.manager.now left opening (lines c.args.trace.now) items rows run) c.deref.ensures.value c.in_ok-recorded.ensures;
      all_are = c.in_ok-found.ensures ∙ ap (sentences_of opening) c.deref-2.ensures.value;
    }
