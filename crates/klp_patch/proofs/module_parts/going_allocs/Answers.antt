use Rattle.std.proofs.Common.{ap, ◌∙◌, arith}
use Rattle.std.specs.List.{flat_map}
use Rattle.klp_types.specs.declared.callback.Which.TheVariants.{PreUn, PostUn}
use Rattle.klp_types.specs.Callbacks.{allocs_of}
use Rattle.klp_model.specs.EventCalls.{going_may_run}
use Rattle.klp_patch.specs.Calls.{records_of}
use Rattle.klp_patch.specs.Places.{call_at, call_unless_moving}
use Rattle.klp_patch.proofs.CallLemmas.{allocs-append}
use Rattle.klp_patch.proofs.RanLemmas.{records-append}
use Rattle.klp_patch.proofs.ModulePartLemmas.{no_part, one_part, may_go}
use Rattle.klp_patch.proofs.module_parts.going_allocs.Goals as goal

pub returns-in-Some-clause-value : goal.returns-in-Some-clause-value
returns-in-Some-clause-value g c =
    let calls = may_go c.args.catalog.now c.args.object c.args.patch c.in-Some.place
    (one_part c.args.catalog.now c.args.object c.args.patch c.place.ensures.once c.in-Some.place c.in-Some.ensures.place) c.args.moving.now
    in
    let sum = ap allocs_of calls
    ∙ allocs-append (call_at c.args.catalog.now c.args.patch c.in-Some.place PostUn) (call_unless_moving c.args.moving.now c.args.catalog.now c.args.patch c.in-Some.place PreUn)
    in
    omega (arith, sum, c.allocs_at.ensures.value, c.allocs_unless_moving.ensures.value)

pub returns-in-Some-clause-records : goal.returns-in-Some-clause-records
returns-in-Some-clause-records g c =
    let calls = may_go c.args.catalog.now c.args.object c.args.patch c.in-Some.place
    (one_part c.args.catalog.now c.args.object c.args.patch c.place.ensures.once c.in-Some.place c.in-Some.ensures.place) c.args.moving.now
    in
    let sum = ap records_of calls
    ∙ records-append (call_at c.args.catalog.now c.args.patch c.in-Some.place PostUn) (call_unless_moving c.args.moving.now c.args.catalog.now c.args.patch c.in-Some.place PreUn)
    in
    omega (arith, sum, c.allocs_at.ensures.records, c.allocs_unless_moving.ensures.records)

pub returns-in-None-clause-value : goal.returns-in-None-clause-value
returns-in-None-clause-value g c =
    let none = ap (λ parts. allocs_of (flat_map (going_may_run c.args.moving.now) parts)) (no_part c.args.catalog.now c.args.object c.args.patch c.place.ensures.once c.in-None.ensures.place) in
    omega (arith, none)

pub returns-in-None-clause-records : goal.returns-in-None-clause-records
returns-in-None-clause-records g c =
    let none = ap (λ parts. records_of (flat_map (going_may_run c.args.moving.now) parts)) (no_part c.args.catalog.now c.args.object c.args.patch c.place.ensures.once c.in-None.ensures.place) in
    omega (arith, none)
