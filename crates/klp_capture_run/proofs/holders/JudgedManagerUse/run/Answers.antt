use Rattle.std.proofs.Common.{◌≡◌, List, sym, subst, ◌∙◌}
use Rattle.std.specs.Prelude.{MatchResult}
use Rattle.klp_watch.specs.ComparedWhole.{AreAllSo}
use Rattle.klp_watch.specs.declared.observed.Observed.{Observed}
use Rattle.klp_program.specs.declared.verdict.Verdict.TheVariants.{Honest}
use Rattle.klp_program.specs.Watches.{counted, reported, IsFound}
use Rattle.klp_program.proofs.WatchLemmas.{found_by}
use Rattle.klp_capture_run.proofs.holders.JudgedManagerUse.run.Goals as goal

-- the verdict is on the items of the trace that was read, and so are those who lag behind them
pub returns-in-Ok : goal.returns-in-Ok
returns-in-Ok g c =
    let before = c.args.manager.now.managed in
    let left = c.compare_whole-ended.new.manager.managed in
    let ended = c.compare_whole-ended.result in
    let verdict = c.verdict_of-verdict.result in
    let verdict_is = subst (λ (items : List Observed). MatchResult ended (λ refused. verdict ≡ Honest (counted items refused)) (λ differs. verdict ≡ reported differs))
    (c.deref-2.ensures.value ∙ sym c.deref.ensures.value) c.verdict_of-verdict.ensures in
    record {
      verdict_is = record {
        items = c.in_ok-trace.trace.items.items;
        times = c.in_ok-trace.trace.times.items;
        read = c.in_ok-trace.ensures.read;
        left = left;
        found = subst (λ (items : List Observed). IsFound before left items verdict) c.deref.ensures.value
            (found_by before left c.deref.result.now ended verdict c.compare_whole-ended.ensures.compared c.compare_whole-ended.ensures.consistent c.compare_whole-ended.ensures.differs c.compare_whole-ended.ensures.refused verdict_is);
      };
      behind = record {
        items = c.in_ok-trace.trace.items.items;
        times = c.in_ok-trace.trace.times.items;
        read = c.in_ok-trace.ensures.read;
        behind = record {
          left = left;
          so = subst (λ (items : List Observed). AreAllSo before left items) c.deref.ensures.value c.in-Ok.ensures.compared;
          lags_are = c.holders.ensures;
        };
      };
    }

pub returns : goal.returns
returns g c =
    let before = c.args.manager.now.managed in
    let left = c.compare_whole-ended.new.manager.managed in
    let ended = c.compare_whole-ended.result in
    let verdict = c.verdict_of-verdict.result in
    let verdict_is = subst (λ (items : List Observed). MatchResult ended (λ refused. verdict ≡ Honest (counted items refused)) (λ differs. verdict ≡ reported differs))
    (c.deref-2.ensures.value ∙ sym c.deref.ensures.value) c.verdict_of-verdict.ensures in
    record {
      verdict_is = record {
        items = c.in_ok-trace.trace.items.items;
        times = c.in_ok-trace.trace.times.items;
        read = c.in_ok-trace.ensures.read;
        left = left;
        found = subst (λ (items : List Observed). IsFound before left items verdict) c.deref.ensures.value
            (found_by before left c.deref.result.now ended verdict c.compare_whole-ended.ensures.compared c.compare_whole-ended.ensures.consistent c.compare_whole-ended.ensures.differs c.compare_whole-ended.ensures.refused verdict_is);
      };
      behind = tt;
    }
