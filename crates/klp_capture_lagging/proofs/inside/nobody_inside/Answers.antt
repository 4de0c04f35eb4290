use Rattle.klp_capture_lagging.proofs.InsideLemmas.{nobody_by}
use Rattle.klp_capture_lagging.proofs.inside.nobody_inside.Goals as goal

pub returns : goal.returns
returns c =
    let all_read = rw c.deref.ensures.value at c.has_none-is_all_read.ensures in
    nobody_by c.args.capture.now c.as_slice-samples.result.now c.end_of.result.now c.are_so.result c.has_none-is_all_read.result
    c.any_is_whole-is_any_whole.result c.lacks_some-is_any_lacking.result c.any_unsure-is_any_unsure.result
    c.any_counts_inside-are_counted.result c.as_slice-samples.ensures.value c.end_of.ensures all_read c.any_is_whole-is_any_whole.ensures
    c.lacks_some-is_any_lacking.ensures c.any_unsure-is_any_unsure.ensures c.any_counts_inside-are_counted.ensures c.are_so.ensures
