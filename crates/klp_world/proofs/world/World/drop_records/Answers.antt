use Rattle.std.proofs.Common.{ap, length, arith}
use Rattle.klp_world.proofs.LoggedLemmas.{length-dropped}
use Rattle.klp_world.proofs.PatchLemmas.{nothing_dropped, rows_seen}
use Rattle.klp_world.proofs.world.World.drop_records.Goals as goal

pub returns-in-Some-clause-value : goal.returns-in-Some-clause-value
returns-in-Some-clause-value c =
    let rows = ap length (rows_seen c.args.patch c.deref.result.now c.self.inside.patches.items c.self.inside.shadow c.args.self.now c.deref.ensures.value c.self.view_is c.in-Some.place c.in-Some.ensures c.index.result.now c.index.ensures) in
    let whole = length-dropped c.args.patch c.index.result.now.values c.in-Some.place in
    let seen = ap length c.states.ensures.value in
    omega (arith, rows, whole, seen)

pub returns-in-None-clause-value : goal.returns-in-None-clause-value
returns-in-None-clause-value c =
    let rows = ap length (nothing_dropped c.args.patch c.deref.result.now c.self.inside.patches.items c.self.inside.shadow c.args.self.now c.deref.ensures.value c.self.view_is c.in-None.ensures) in
    omega (arith, rows)
