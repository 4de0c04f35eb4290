use Rattle.std.proofs.Common.{List, ◌++◌, length, subst, sym, ap, ◌∙◌, arith}
use Rattle.std.proofs.lemmas.Option.{slice_get_within}
use Rattle.klp_types.specs.Callbacks.{Call}
use Rattle.klp_catalog.specs.Catalog.{Catalog}
use Rattle.klp_catalog.specs.Runs.{objects_at}
use Rattle.klp_patch.specs.Loaded.{loaded_in}
use Rattle.klp_patch.specs.Refusing.{pre_calls}
use Rattle.klp_patch.specs.Calls.{HaveRun, HasRoomFor}
use Rattle.klp_patch.proofs.RanLemmas.{then_ran}
use Rattle.klp_patch.proofs.RefusalLemmas.{enable-passed, enable-refused, room_for_pre, room_to_clean, clean-first}
use Rattle.klp_patch.proofs.patch_callbacks.run_pre_patch.Goals as goal

pub pre_patch-requires : goal.pre_patch-requires
pre_patch-requires g c = room_for_pre c.args.patch (loaded_in c.args.catalog.now c.args.modules.now c.args.patch) c.args.world.now c.args.log.now c.requires

pub returns-in_err-place-clause-ran : goal.returns-in_err-place-clause-ran
returns-in_err-place-clause-ran g c =
    subst (λ (calls : List Call). HaveRun c.args.catalog.now c.pre_patch.new.catalog c.args.world.now c.pre_patch.new.world c.args.log.now c.pre_patch.new.log calls)
    (sym (enable-passed c.args.patch (loaded_in c.args.catalog.now c.args.modules.now c.args.patch) c.in_err-place.ensures.refused)) c.pre_patch.ensures.ran

pub run_first-requires-clause-end : goal.run_first-requires-clause-end
run_first-requires-clause-end g c =
    let refused = c.in_ok-place.ensures.refused in
    let same = ap (λ (k : Catalog). length (objects_at k c.args.patch)) c.pre_patch.ensures.ran.catalog in
    omega (arith, same, slice_get_within (objects_at c.args.catalog.now c.args.patch) c.in_ok-place.place refused.0 refused.1)

pub run_first-requires-clause-room : goal.run_first-requires-clause-room
run_first-requires-clause-room g c =
    let refused = c.in_ok-place.ensures.refused in
    let same = ap (λ (k : Catalog). objects_at k c.args.patch) c.pre_patch.ensures.ran.catalog in
    subst (λ (calls : List Call). HasRoomFor c.pre_patch.new.world c.pre_patch.new.log calls)
    (sym (clean-first c.args.catalog.now c.pre_patch.new.catalog c.args.modules.now c.args.patch c.in_ok-place.place refused.0 same refused.3))
    (room_to_clean c.args.patch (loaded_in c.args.catalog.now c.args.modules.now c.args.patch) c.args.world.now c.args.log.now c.requires
    c.args.catalog.now c.pre_patch.new.catalog c.pre_patch.new.world c.pre_patch.new.log c.pre_patch.ensures.ran)

pub returns-clause-ran : goal.returns-clause-ran
returns-clause-ran g c =
    let refused = c.in_ok-place.ensures.refused in
    let objects = loaded_in c.args.catalog.now c.args.modules.now c.args.patch in
    let same = ap (λ (k : Catalog). objects_at k c.args.patch) c.pre_patch.ensures.ran.catalog in
    let pre = pre_calls c.args.patch objects in
    subst (λ (calls : List Call). HaveRun c.args.catalog.now c.run_first.new.catalog c.args.world.now c.run_first.new.world c.args.log.now c.run_first.new.log calls)
    (ap (λ clean. pre ++ clean) (clean-first c.args.catalog.now c.pre_patch.new.catalog c.args.modules.now c.args.patch c.in_ok-place.place refused.0 same refused.3)
    ∙ sym (enable-refused c.args.patch objects (c.in_ok-place.place, refused.0) refused.3))
    (then_ran c.runs_add_up.ensures c.args.catalog.now c.pre_patch.new.catalog c.run_first.new.catalog c.args.world.now c.pre_patch.new.world c.run_first.new.world
    c.args.log.now c.pre_patch.new.log c.run_first.new.log pre _ c.pre_patch.ensures.ran c.run_first.ensures)
