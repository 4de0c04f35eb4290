use Rattle.klp_patch.specs.ModuleParts.{parts_in}
use Rattle.klp_patch.proofs.ModulePartsLemmas.{room_to_go}
use Rattle.klp_patch.proofs.module_callbacks.run_going.Goals as goal

pub each_going-requires : goal.each_going-requires
each_going-requires g c =
    room_to_go c.args.moving (parts_in c.args.catalog.now c.args.object c.args.installed.now) c.args.world.now c.args.log.now c.requires.room
