use Rattle.std.proofs.Common.{List, ◌++◌, take, sym, ap, subst, ◌∙◌}
use Rattle.std.specs.Prelude.{find}
use Rattle.klp_types.specs.Callbacks.{Call}
use Rattle.klp_model.specs.ModuleCalls.{part_refuses, going_calls}
use Rattle.klp_catalog.specs.Catalog.{Catalog}
use Rattle.klp_patch.specs.ModuleParts.{parts_in}
use Rattle.klp_patch.specs.UntilRefused.{calls_until_refused}
use Rattle.klp_patch.specs.Calls.{HaveRun, HasRoomFor}
use Rattle.klp_patch.proofs.RanLemmas.{then_ran}
use Rattle.klp_patch.proofs.ModulePartsLemmas.{coming-passed, coming-refused, refusal-some, room_to_coming, room_to_clean}
use Rattle.klp_patch.proofs.module_callbacks.run_coming.Goals as goal

pub each_coming-requires : goal.each_coming-requires
each_coming-requires g c =
    room_to_coming c.args.moving (parts_in c.args.catalog.now c.args.object c.args.installed.now) c.args.world.now c.args.log.now c.requires.room

pub returns-in_err-end-clause-ran : goal.returns-in_err-end-clause-ran
returns-in_err-end-clause-ran g c =
    subst (λ (calls : List Call). HaveRun c.args.catalog.now c.each_coming.new.catalog c.args.world.now c.each_coming.new.world c.args.log.now c.each_coming.new.log calls)
    (sym (coming-passed c.args.moving (parts_in c.args.catalog.now c.args.object c.args.installed.now) c.in_err-end.ensures.refused)) c.each_coming.ensures.ran

pub each_going-requires : goal.each_going-requires
each_going-requires g c =
    let first = c.args.catalog.now in
    let parts = parts_in first c.args.object c.args.installed.now in
    let same = ap (λ (k : Catalog). parts_in k c.args.object (take c.in_ok-end.end c.args.installed.now)) c.each_coming.ensures.ran.catalog in
    subst (λ (calls : List Call). HasRoomFor c.each_coming.new.world c.each_coming.new.log calls)
    (ap (going_calls c.args.moving) (c.in_ok-end.ensures.refused.2 ∙ sym same))
    (room_to_clean c.args.moving parts c.args.world.now c.args.log.now c.requires.room first c.each_coming.new.catalog c.each_coming.new.world c.each_coming.new.log c.each_coming.ensures.ran)

pub returns-clause-ran : goal.returns-clause-ran
returns-clause-ran g c =
    let first = c.args.catalog.now in
    let parts = parts_in first c.args.object c.args.installed.now in
    let same = ap (λ (k : Catalog). parts_in k c.args.object (take c.in_ok-end.end c.args.installed.now)) c.each_coming.ensures.ran.catalog in
    let who = refusal-some (find part_refuses parts) _ (sym c.in_ok-end.ensures.refused.1) in
    subst (λ (calls : List Call). HaveRun first c.each_going.new.catalog c.args.world.now c.each_going.new.world c.args.log.now c.each_going.new.log calls)
    (ap (λ more. calls_until_refused c.args.moving parts ++ going_calls c.args.moving more) (same ∙ sym c.in_ok-end.ensures.refused.2)
    ∙ sym (coming-refused c.args.moving parts who.0 who.1))
    (then_ran c.runs_add_up.ensures first c.each_coming.new.catalog c.each_going.new.catalog c.args.world.now c.each_coming.new.world c.each_going.new.world
    c.args.log.now c.each_coming.new.log c.each_going.new.log (calls_until_refused c.args.moving parts) _ c.each_coming.ensures.ran c.each_going.ensures)
