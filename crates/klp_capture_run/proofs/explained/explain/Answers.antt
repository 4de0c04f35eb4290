use Rattle.std.proofs.Common.{sym}
use Rattle.klp_capture_run.proofs.HolderLemmas.{shown_of}
use Rattle.klp_capture_run.proofs.explained.explain.Goals as goal

-- what was judged, shown and done is the catalog and the trace that were made
pub returns : goal.returns
returns c = record {
  judged = rw (sym c.as_bytes.ensures.value, sym c.as_bytes-2.ensures.value) c.in_ok-verdict.ensures.judged;
  shown =
      rw (sym c.as_bytes-trace.ensures.value, sym c.deref-2.ensures.value, sym c.deref-3.ensures.value)
      (shown_of _ _ _ _ c.samples_before-reached.ensures c.samples_before.ensures c.deref.ensures.value c.in_ok-unshown.ensures);
  sentences = rw (sym c.as_bytes-3.ensures.value, sym c.as_bytes-4.ensures.value) c.in_ok-sentences.ensures;
  lags = rw (sym c.as_bytes.ensures.value, sym c.as_bytes-2.ensures.value) c.in_ok-verdict.ensures.lags;
}
