use Rattle.klp_catalog.specs.Runs.{script_at}
use Rattle.klp_patch.specs.Places.{call_at}
use Rattle.std.proofs.Common.{refl}
use Rattle.klp_patch.proofs.RanLemmas.{room_fits, one_ran}
use Rattle.klp_patch.proofs.callback_run.run_at.Goals as goal

pub run-requires : goal.run-requires
run-requires g c = record {
  room = room_fits c.records_are_few.ensures c.args.patch c.args.place c.args.which c.args.world.now c.args.log.now
      (script_at c.args.catalog.now c.args.patch c.args.place c.args.which)
      (call_at c.args.catalog.now c.args.patch c.args.place c.args.which) refl c.requires;
}

pub returns-clause-ran : goal.returns-clause-ran
returns-clause-ran g c =
    one_ran c.variables_are_few.ensures c.records_are_few.ensures c.installed_patches_stay.ensures c.args.catalog.now c.run.new.self c.args.patch c.args.place c.args.which
    c.args.world.now c.run.new.world c.args.log.now c.run.new.log (script_at c.args.catalog.now c.args.patch c.args.place c.args.which)
    c.run.ensures.catalog c.run.ensures.changes.world c.run.ensures.changes.records c.run.ensures.changes.undo c.run.ensures.changes.effective
