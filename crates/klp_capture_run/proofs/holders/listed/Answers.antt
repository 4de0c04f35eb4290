use Rattle.std.proofs.Common.{◌+◌, List, ◌++◌, drop, Option, sym, ap, ◌∙◌, append_assoc}
use Rattle.klp_core.specs.declared.holders.Lag.{Lag}
use Rattle.klp_capture_run.specs.declared.holders.Holder.{Holder}
use Rattle.klp_capture_run.specs.Holders.{holder_at, holders_from}
use Rattle.klp_capture_run.proofs.HolderLemmas.{holders_from-drop}
use Rattle.klp_capture_run.proofs.holders.listed.Goals as goal

-- one more task
pub loop-number-preserved : goal.loop-number-preserved
loop-number-preserved c =
    let lags = c.args.lags.now in
    let i = c.loop-number.number in
    let before = c.loop-number.list.items in
    let rest = holders_from (i + 1) (drop (i + 1) lags) in
    let lag = c.index-lags-number.result in
    ap (λ (items : List Holder). items ++ rest) c.in_ok-add.ensures ∙ append_assoc before (holder_at i lag) rest
    ∙ ap (λ (items : List Holder). before ++ items)
    (ap (λ (own : Option Lag). holder_at i own ++ rest) c.index-lags-number.is ∙ sym (holders_from-drop lags i lag c.loop-number-test.true))
    ∙ c.loop-number.invariant
