use Rattle.std.proofs.Common.{List, Option}
use Rattle.klp_core.specs.declared.holders.Lag.{Lag}
use Rattle.klp_capture_run.specs.Holders.{LagBehindTrace, LagOver}
use Rattle.klp_capture_run.proofs.HolderLemmas.{if_some}
use Rattle.klp_capture_run.proofs.holders.judgement_over.Goals as goal

-- the manager is that of the catalog's plan
pub returns : goal.returns
returns c =
    let over = c.in_ok-over_text.ensures in
    let judgement = rw c.in_ok-judgement.was at over.over.came_to in
    record {
      judged = (over.plan, over.planned, (over.over.booted, over.over.is_booted, judgement.verdict_is));
      lags = if_some (LagBehindTrace over.over.booted c.args.trace.now) (LagOver c.args.catalog.now c.args.trace.now) c.in_ok-judgement.judgement.lags
          (λ lags behind. record {
            plan = over.plan;
            plan_is = over.planned;
            over = record { booted = over.over.booted; boots = over.over.is_booted; behind = behind };
          })
          judgement.behind;
    }
