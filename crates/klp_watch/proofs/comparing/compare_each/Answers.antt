use Rattle.std.proofs.Common.{◌+◌, List, [], take, sym, subst, refl, ap, ◌∙◌, arith}
use Rattle.std.proofs.lemmas.List.{take_all, length-take-le}
use Rattle.klp_types.specs.declared.limits.TheConstants.{MAX_TASKS}
use Rattle.klp_types.specs.declared.version.Version.{Version}
use Rattle.klp_manager_state.specs.Managed.{setting_of}
use Rattle.klp_watch.specs.Inside.{AreInside}
use Rattle.klp_watch.specs.ComparedWhole.{AreAllSo}
use Rattle.klp_watch.specs.Refused.{refused_in}
use Rattle.klp_watch.proofs.InsideLemmas.{none_inside}
use Rattle.klp_watch.proofs.WatchedLemmas.{next_of}
use Rattle.klp_watch.proofs.ComparedWholeLemmas.{AllSoTo, nothing_so, all_so_next, differ_next, refused_next}
use Rattle.klp_watch.proofs.comparing.compare_each.Goals as goal

pub loop-done-init : goal.loop-done-init
loop-done-init g c = record {
  run = nothing_so c.states_stay_allowed.ensures.run c.args.manager.now c.new-inside.result.rows c.requires
      (subst (λ (t : List (List Version)). AreInside t (λ n. [])) (sym c.new-inside.ensures) (none_inside MAX_TASKS));
  setting = refl;
  well_formed = c.requires;
  refused = λ nobody. c.none-refused.ensures;
  few = rw c.none-refused.ensures (omega arith);
}

pub returns-in-Err-clause-differs : goal.returns-in-Err-clause-differs
returns-in-Err-clause-differs g c =
    differ_next c.args.manager.now c.loop-done.manager c.make_room.new.self c.compare_item.new.manager c.loop-done.inside.rows c.compare_item.new.inside.rows
    c.loop-done.invariant.setting c.make_room.ensures.same c.make_room.ensures.room c.state_is_that_of_the_events.ensures
    c.args.items.now c.loop-done.done c.index-items-done.result c.in-Err.cause c.loop-done-test.true c.index-items-done.is
    c.loop-done.invariant.run c.in-Err.ensures.reported

pub loop-done-preserved : goal.loop-done-preserved
loop-done-preserved g c =
    let items = c.args.items.now in
    let item = c.index-items-done.result in
    let first = c.args.manager.now in
    record {
      run = subst (AllSoTo first.managed c.compare_item.new.manager.managed c.compare_item.new.inside.rows) (sym (next_of items c.loop-done.done item c.loop-done-test.true c.index-items-done.is))
          (all_so_next first c.loop-done.manager c.make_room.new.self c.compare_item.new.manager c.loop-done.inside.rows c.compare_item.new.inside.rows
          c.loop-done.invariant.setting c.make_room.ensures.same c.make_room.ensures.room
          c.events_go_on_where_they_end.ensures c.state_is_that_of_the_events.ensures (take c.loop-done.done items) item
          c.loop-done.invariant.run c.in-Ok.ensures.done);
      setting = c.compare_item.ensures.setting ∙ ap setting_of c.make_room.ensures.same ∙ c.loop-done.invariant.setting;
      well_formed = c.compare_item.ensures.well_formed;
      refused = λ nobody.
          refused_next first c.loop-done.manager c.make_room.new.self c.compare_item.new.manager c.loop-done.inside.rows c.compare_item.new.inside.rows
          c.loop-done.invariant.setting c.make_room.ensures.same c.make_room.ensures.room (take c.loop-done.done items) item
          c.loop-done.refused c.add.new.self (c.loop-done.done + 1) c.in-Ok.refusal
          (omega (arith, length-take-le c.loop-done.done items (omega (arith, c.loop-done-test.true))))
          (c.loop-done.invariant.run nobody).0.lead (c.loop-done.invariant.refused nobody) c.in-Ok.ensures.refused c.add.ensures.added
          ∙ ap (refused_in (setting_of first.managed) first.managed.state) (sym (next_of items c.loop-done.done item c.loop-done-test.true c.index-items-done.is));
      few = c.add.ensures.few;
    }

pub returns-clause-compared : goal.returns-clause-compared
returns-clause-compared g c = λ nobody.
    subst (AreAllSo c.args.manager.now.managed c.loop-done.manager.managed) (take_all c.loop-done.done c.args.items.now c.loop-done-test.false) (c.loop-done.invariant.run nobody).0

pub returns-clause-refused : goal.returns-clause-refused
returns-clause-refused g c = λ nobody.
    let first = c.args.manager.now.managed in
    c.loop-done.invariant.refused nobody ∙ ap (refused_in (setting_of first) first.state) (take_all c.loop-done.done c.args.items.now c.loop-done-test.false)
