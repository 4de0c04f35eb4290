use Rattle.std.proofs.Common.{List, subst, sym, ap}
use Rattle.std.specs.List.{flat_map}
use Rattle.klp_types.specs.Callbacks.{Call}
use Rattle.klp_model.specs.ModuleCalls.{part_going}
use Rattle.klp_patch.specs.Calls.{HaveRun, HasRoomFor}
use Rattle.klp_patch.proofs.ModulePartLemmas.{no_part, one_part, lets_go}
use Rattle.klp_patch.proofs.RanLemmas.{none_ran}
use Rattle.klp_patch.proofs.module_parts.part_going.Goals as goal

pub going_at-requires : goal.going_at-requires
going_at-requires g c =
    subst (λ (calls : List Call). HasRoomFor c.args.world.now c.args.log.now calls)
    (lets_go c.args.catalog.now c.args.object c.args.patch c.in-Some.place
    (one_part c.args.catalog.now c.args.object c.args.patch c.place.ensures.once c.in-Some.place c.in-Some.ensures.place) c.args.moving.now)
    c.requires

pub returns-in-Some : goal.returns-in-Some
returns-in-Some g c =
    subst (λ (calls : List Call). HaveRun c.args.catalog.now c.going_at.new.catalog c.args.world.now c.going_at.new.world c.args.log.now c.going_at.new.log calls)
    (sym (lets_go c.args.catalog.now c.args.object c.args.patch c.in-Some.place
    (one_part c.args.catalog.now c.args.object c.args.patch c.place.ensures.once c.in-Some.place c.in-Some.ensures.place) c.args.moving.now))
    c.going_at.ensures

pub returns-in_default : goal.returns-in_default
returns-in_default g c =
    subst (λ (calls : List Call). HaveRun c.args.catalog.now c.args.catalog.now c.args.world.now c.args.world.now c.args.log.now c.args.log.now calls)
    (sym (ap (flat_map (part_going c.args.moving.now)) (no_part c.args.catalog.now c.args.object c.args.patch c.place.ensures.once c.in_default.ensures.place)))
    (none_ran c.args.catalog.now c.args.world.now c.args.log.now)
