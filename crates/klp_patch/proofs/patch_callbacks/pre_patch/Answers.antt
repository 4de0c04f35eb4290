use Rattle.std.proofs.Common.{rules, w32, to_z, of_z, ◌≡◌, ◌+◌, ◌++◌, [], ◌∙◌, ap, sym, arith, drop}
use Rattle.std.proofs.lemmas.List.{append-nil}
use Rattle.klp_types.specs.declared.callback.Which.TheVariants.{Pre}
use Rattle.klp_types.specs.Script.{is_success}
use Rattle.klp_catalog.specs.Runs.{objects_at}
use Rattle.klp_patch.specs.Loaded.{is_loaded_in, loaded_from}
use Rattle.klp_patch.specs.Refusing.{loaded_call, pre_calls}
use Rattle.klp_patch.proofs.CallLemmas.{from-end}
use Rattle.klp_patch.proofs.LoopLemmas.{turn, turn-goes_on, turn-stops, refuses-nonzero}
use Rattle.klp_patch.proofs.RanLemmas.{begins, goes_on, all_ran, room_for_next, objects_so_far, next_pre}
use Rattle.klp_patch.proofs.patch_callbacks.pre_patch.Goals as goal

pub loop-place-init : goal.loop-place-init
loop-place-init g c = record {
  ran = begins c.args.catalog.now c.args.world.now c.args.log.now (pre_calls c.args.patch (loaded_from (is_loaded_in c.args.modules.now) 0 (objects_at c.args.catalog.now c.args.patch)));
  refused = search rules;
}

pub run_where_loaded-status-requires : goal.run_where_loaded-status-requires
run_where_loaded-status-requires g c =
    let first = c.args.catalog.now in
    let now = c.loop-place.catalog in
    let loaded = is_loaded_in c.args.modules.now in
    let objects = objects_at first c.args.patch in
    let left = pre_calls c.args.patch (loaded_from loaded c.loop-place.place (drop c.loop-place.place objects)) in
    let all = pre_calls c.args.patch (loaded_from loaded 0 objects) in
    let same = objects_so_far first now c.args.world.now c.loop-place.world c.args.log.now c.loop-place.log left all c.args.patch c.loop-place.invariant.ran in
    let here = turn now first c.args.modules.now c.args.patch c.loop-place.place same (omega (arith, c.loop-place-test.true, c.target_len-place-end.ensures.count)) in
    let next = next_pre now first c.args.modules.now c.args.patch c.loop-place.place here in
    room_for_next first now c.args.world.now c.loop-place.world c.args.log.now c.loop-place.log left all
    (loaded_call now c.args.modules.now c.args.patch Pre c.loop-place.place) next.0 c.requires c.loop-place.invariant.ran next.1

pub returns-then-status-ne0-clause-refused : goal.returns-then-status-ne0-clause-refused
returns-then-status-ne0-clause-refused g c =
    let first = c.args.catalog.now in
    let now = c.loop-place.catalog in
    let loaded = is_loaded_in c.args.modules.now in
    let objects = objects_at first c.args.patch in
    let left = pre_calls c.args.patch (loaded_from loaded c.loop-place.place (drop c.loop-place.place objects)) in
    let all = pre_calls c.args.patch (loaded_from loaded 0 objects) in
    let same = objects_so_far first now c.args.world.now c.loop-place.world c.args.log.now c.loop-place.log left all c.args.patch c.loop-place.invariant.ran in
    let here = turn now first c.args.modules.now c.args.patch c.loop-place.place same (omega (arith, c.loop-place-test.true, c.target_len-place-end.ensures.count)) in
    let refusal = refuses-nonzero c.run_where_loaded-status.result (λ e. c.if-status-ne0.true (ap (of_z w32) e)) in
    let last = turn-stops loaded c.args.patch objects c.loop-place.place here.object here.there (ap is_success (sym here.status) ∙ ap is_success (sym c.run_where_loaded-status.ensures.status) ∙ refusal) in
    let stored : to_z w32 (of_z w32 c.run_where_loaded-status.result) ≡ c.run_where_loaded-status.result = search rules in
    (here.object, here.there, stored ∙ c.run_where_loaded-status.ensures.status ∙ here.status ∙ last.status, sym c.loop-place.invariant.refused ∙ last.refused)

pub returns-then-status-ne0-clause-ran : goal.returns-then-status-ne0-clause-ran
returns-then-status-ne0-clause-ran g c =
    let first = c.args.catalog.now in
    let now = c.loop-place.catalog in
    let loaded = is_loaded_in c.args.modules.now in
    let objects = objects_at first c.args.patch in
    let left = pre_calls c.args.patch (loaded_from loaded c.loop-place.place (drop c.loop-place.place objects)) in
    let all = pre_calls c.args.patch (loaded_from loaded 0 objects) in
    let call = loaded_call now c.args.modules.now c.args.patch Pre c.loop-place.place in
    let same = objects_so_far first now c.args.world.now c.loop-place.world c.args.log.now c.loop-place.log left all c.args.patch c.loop-place.invariant.ran in
    let here = turn now first c.args.modules.now c.args.patch c.loop-place.place same (omega (arith, c.loop-place-test.true, c.target_len-place-end.ensures.count)) in
    let refusal = refuses-nonzero c.run_where_loaded-status.result (λ e. c.if-status-ne0.true (ap (of_z w32) e)) in
    let last = turn-stops loaded c.args.patch objects c.loop-place.place here.object here.there (ap is_success (sym here.status) ∙ ap is_success (sym c.run_where_loaded-status.ensures.status) ∙ refusal) in
    let far = goes_on c.runs_add_up.ensures first now c.run_where_loaded-status.new.catalog c.args.world.now c.loop-place.world c.run_where_loaded-status.new.world c.args.log.now c.loop-place.log c.run_where_loaded-status.new.log left all call []
    c.loop-place.invariant.ran (last.calls ∙ sym here.call ∙ sym (append-nil call)) c.run_where_loaded-status.ensures.ran
    in
    all_ran first c.run_where_loaded-status.new.catalog c.args.world.now c.run_where_loaded-status.new.world c.args.log.now c.run_where_loaded-status.new.log [] all far (search rules)

pub loop-place-preserved : goal.loop-place-preserved
loop-place-preserved g c =
    let first = c.args.catalog.now in
    let now = c.loop-place.catalog in
    let loaded = is_loaded_in c.args.modules.now in
    let objects = objects_at first c.args.patch in
    let left = pre_calls c.args.patch (loaded_from loaded c.loop-place.place (drop c.loop-place.place objects)) in
    let rest = pre_calls c.args.patch (loaded_from loaded (c.loop-place.place + 1) (drop (c.loop-place.place + 1) objects)) in
    let all = pre_calls c.args.patch (loaded_from loaded 0 objects) in
    let call = loaded_call now c.args.modules.now c.args.patch Pre c.loop-place.place in
    let same = objects_so_far first now c.args.world.now c.loop-place.world c.args.log.now c.loop-place.log left all c.args.patch c.loop-place.invariant.ran in
    let here = turn now first c.args.modules.now c.args.patch c.loop-place.place same (omega (arith, c.loop-place-test.true, c.target_len-place-end.ensures.count)) in
    let stored : to_z w32 (of_z w32 c.run_where_loaded-status.result) ≡ c.run_where_loaded-status.result = search rules in
    let on = turn-goes_on loaded c.args.patch objects c.loop-place.place here.object here.there
    (ap is_success (sym here.status) ∙ ap is_success (sym c.run_where_loaded-status.ensures.status) ∙ ap is_success (sym stored ∙ ap (to_z w32) c.if-status-ne0.false))
    in
    record {
      ran = goes_on c.runs_add_up.ensures first now c.run_where_loaded-status.new.catalog c.args.world.now c.loop-place.world c.run_where_loaded-status.new.world c.args.log.now c.loop-place.log c.run_where_loaded-status.new.log left all call rest
          c.loop-place.invariant.ran (on.calls ∙ ap (λ calls. calls ++ rest) (sym here.call)) c.run_where_loaded-status.ensures.ran;
      refused = sym on.refused ∙ c.loop-place.invariant.refused;
    }

pub returns-clause-ran : goal.returns-clause-ran
returns-clause-ran g c =
    let first = c.args.catalog.now in
    let loaded = is_loaded_in c.args.modules.now in
    let objects = objects_at first c.args.patch in
    let left = pre_calls c.args.patch (loaded_from loaded c.loop-place.place (drop c.loop-place.place objects)) in
    let all = pre_calls c.args.patch (loaded_from loaded 0 objects) in
    let past = c.loop-place-test.false in
    all_ran first c.loop-place.catalog c.args.world.now c.loop-place.world c.args.log.now c.loop-place.log left all c.loop-place.invariant.ran
    (ap (pre_calls c.args.patch) (from-end loaded objects c.loop-place.place (omega (arith, past, c.target_len-place-end.ensures.count))))
