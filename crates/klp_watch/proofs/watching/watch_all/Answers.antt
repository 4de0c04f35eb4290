use Rattle.std.proofs.Common.{List, [], take, sym, subst, refl, ◌∙◌}
use Rattle.std.proofs.lemmas.List.{take_all}
use Rattle.klp_types.specs.declared.limits.TheConstants.{MAX_TASKS}
use Rattle.klp_types.specs.declared.version.Version.{Version}
use Rattle.klp_watch.specs.Inside.{AreInside}
use Rattle.klp_watch.specs.Watching.{AreWatched}
use Rattle.klp_watch.proofs.InsideLemmas.{none_inside}
use Rattle.klp_watch.proofs.WatchedLemmas.{SoFar, none_so_far, next_of, one_more, reported_next}
use Rattle.klp_watch.proofs.watching.watch_all.Goals as goal

pub loop-done-init : goal.loop-done-init
loop-done-init g c = record {
  run = none_so_far c.states_stay_allowed.ensures.run c.args.manager.now c.new-inside.result.rows c.mark-for_its_clause.ensures.well_formed
      (subst (λ (t : List (List Version)). AreInside t (λ n. [])) (sym c.new-inside.ensures) (none_inside MAX_TASKS));
  setting = refl;
  well_formed = c.mark-for_its_clause.ensures.well_formed;
}

pub returns-in-Err-clause-fault : goal.returns-in-Err-clause-fault
returns-in-Err-clause-fault g c =
    reported_next c.args.manager.now c.loop-done.manager c.watch_item.new.manager c.loop-done.inside.rows c.loop-done.invariant.setting
    c.args.items.now c.loop-done.done c.index-items-done.result c.in-Err.cause c.loop-done-test.true c.index-items-done.is
    c.loop-done.invariant.run c.in-Err.ensures.reported

pub loop-done-preserved : goal.loop-done-preserved
loop-done-preserved g c =
    let items = c.args.items.now in
    let item = c.index-items-done.result in
    let done = take c.loop-done.done items in
    let first = c.args.manager.now in
    record {
      run = subst (SoFar first c.watch_item.new.manager c.watch_item.new.inside.rows) (sym (next_of items c.loop-done.done item c.loop-done-test.true c.index-items-done.is))
          (one_more first c.loop-done.manager c.watch_item.new.manager c.loop-done.inside.rows c.loop-done.invariant.setting
          c.events_go_on_where_they_end.ensures c.state_is_that_of_the_events.ensures done item c.watch_item.new.inside.rows
          c.loop-done.invariant.run c.in_default.ensures.done);
      setting = c.watch_item.ensures.setting ∙ c.loop-done.invariant.setting;
      well_formed = c.watch_item.ensures.well_formed;
    }

pub returns-clause-watched : goal.returns-clause-watched
returns-clause-watched g c = λ nobody.
    subst (AreWatched c.args.manager.now c.loop-done.manager) (take_all c.loop-done.done c.args.items.now c.loop-done-test.false) (c.loop-done.invariant.run nobody).0
