use Rattle.std.proofs.Common.{List, ap, subst, ◌++◌}
use Rattle.klp_types.specs.declared.callback.Which.TheVariants.{PreUn, PostUn}
use Rattle.klp_types.specs.Callbacks.{Call}
use Rattle.klp_catalog.specs.Catalog.{Catalog}
use Rattle.klp_patch.specs.Calls.{HaveRun}
use Rattle.klp_patch.specs.Places.{call_at, call_unless_moving}
use Rattle.klp_patch.proofs.RanLemmas.{then_ran}
use Rattle.klp_patch.proofs.module_parts.going_at.Goals as goal

pub returns : goal.returns
returns g c =
    let first = c.args.catalog.now in
    let next = c.run_unless_moving.new.catalog in
    let still = call_unless_moving c.args.moving.now first c.args.patch c.args.place PreUn in
    let last = call_at next c.args.patch c.args.place PostUn in
    let same = ap (λ (k : Catalog). call_at k c.args.patch c.args.place PostUn) c.run_unless_moving.ensures.catalog in
    subst (λ (calls : List Call). HaveRun first c.run_at.new.catalog c.args.world.now c.run_at.new.world c.args.log.now c.run_at.new.log (still ++ calls)) same
    (then_ran c.runs_add_up.ensures first next c.run_at.new.catalog c.args.world.now c.run_unless_moving.new.world c.run_at.new.world
    c.args.log.now c.run_unless_moving.new.log c.run_at.new.log still last c.run_unless_moving.ensures c.run_at.ensures.ran)
