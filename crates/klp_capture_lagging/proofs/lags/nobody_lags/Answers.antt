use Rattle.std.proofs.Common.{◌≡◌, List, ap, ◌∙◌}
use Rattle.klp_capture.specs.declared.capture.Sample.{Sample}
use Rattle.klp_capture_lagging.specs.Lagging.{lagging_in, end_of}
use Rattle.klp_capture_lagging.proofs.LaggingLemmas.{nobody_by}
use Rattle.klp_capture_lagging.proofs.lags.nobody_lags.Goals as goal

pub returns : goal.returns
returns c =
    let capture = c.args.capture.now in
    let end = c.end_of-end.result.now in
    let named = c.deref-4.result.now in
    let ends : end ≡ end_of capture.samples.items = c.end_of-end.ensures ∙ ap end_of c.deref.ensures.value in
    let lagging : named ≡ lagging_in capture c.args.target capture.samples.items =
    c.deref-4.ensures.value ∙ c.in_ok-named.ensures
    ∙ ap (λ (samples : List Sample). lagging_in capture c.args.target samples) c.deref-3.ensures.value in
    let all_read = rw c.deref-2.ensures.value at c.has_none-is_all_read.ensures in
    nobody_by capture c.args.patch.now c.args.target end named c.are_so.result c.has_none-is_all_read.result c.has_moving-is_moving.result
    c.has_none-is_none_named.result c.any_counts_some-are_counted.result ends lagging all_read c.has_moving-is_moving.ensures
    c.has_none-is_none_named.ensures c.any_counts_some-are_counted.ensures c.are_so.ensures
