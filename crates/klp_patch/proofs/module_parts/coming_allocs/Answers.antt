use Rattle.std.proofs.Common.{List, ◌+◌, ◌++◌, ◌≡◌, ap, ◌∙◌, arith}
use Rattle.std.specs.List.{flat_map}
use Rattle.klp_types.specs.declared.callback.Which.TheVariants.{Pre, Post, PreUn, PostUn}
use Rattle.klp_types.specs.Callbacks.{Call, allocs_of}
use Rattle.klp_model.specs.EventCalls.{coming_may_run}
use Rattle.klp_patch.specs.Calls.{records_of}
use Rattle.klp_patch.specs.Places.{call_at, call_unless_moving}
use Rattle.klp_patch.proofs.CallLemmas.{allocs-append}
use Rattle.klp_patch.proofs.RanLemmas.{records-append}
use Rattle.klp_patch.proofs.ModulePartLemmas.{no_part, one_part, may_come}
use Rattle.klp_patch.proofs.module_parts.coming_allocs.Goals as goal

allocs_of_four : (a b d e : List Call) → allocs_of (a ++ b ++ d ++ e) ≡ allocs_of a + (allocs_of b + (allocs_of d + allocs_of e))
allocs_of_four a b d e = omega (arith, allocs-append (a ++ b ++ d) e, allocs-append (a ++ b) d, allocs-append a b)

records_of_four : (a b d e : List Call) → records_of (a ++ b ++ d ++ e) ≡ records_of a + (records_of b + (records_of d + records_of e))
records_of_four a b d e = omega (arith, records-append (a ++ b ++ d) e, records-append (a ++ b) d, records-append a b)

pub returns-in-Some-clause-value : goal.returns-in-Some-clause-value
returns-in-Some-clause-value g c =
    let calls = may_come c.args.catalog.now c.args.object c.args.patch c.in-Some.place
    (one_part c.args.catalog.now c.args.object c.args.patch c.place.ensures.once c.in-Some.place c.in-Some.ensures.place) c.args.moving.now
    in
    let sum = ap allocs_of calls
    ∙ allocs_of_four (call_at c.args.catalog.now c.args.patch c.in-Some.place Pre) (call_at c.args.catalog.now c.args.patch c.in-Some.place PostUn)
    (call_unless_moving c.args.moving.now c.args.catalog.now c.args.patch c.in-Some.place Post) (call_unless_moving c.args.moving.now c.args.catalog.now c.args.patch c.in-Some.place PreUn)
    in
    omega (arith, sum, c.allocs_at-comes.ensures.value, c.allocs_at-goes.ensures.value, c.allocs_unless_moving-came.ensures.value, c.allocs_unless_moving-leaves.ensures.value)

pub returns-in-Some-clause-records : goal.returns-in-Some-clause-records
returns-in-Some-clause-records g c =
    let calls = may_come c.args.catalog.now c.args.object c.args.patch c.in-Some.place
    (one_part c.args.catalog.now c.args.object c.args.patch c.place.ensures.once c.in-Some.place c.in-Some.ensures.place) c.args.moving.now
    in
    let sum = ap records_of calls
    ∙ records_of_four (call_at c.args.catalog.now c.args.patch c.in-Some.place Pre) (call_at c.args.catalog.now c.args.patch c.in-Some.place PostUn)
    (call_unless_moving c.args.moving.now c.args.catalog.now c.args.patch c.in-Some.place Post) (call_unless_moving c.args.moving.now c.args.catalog.now c.args.patch c.in-Some.place PreUn)
    in
    omega (arith, sum, c.allocs_at-comes.ensures.records, c.allocs_at-goes.ensures.records, c.allocs_unless_moving-came.ensures.records, c.allocs_unless_moving-leaves.ensures.records)

pub returns-in-None-clause-value : goal.returns-in-None-clause-value
returns-in-None-clause-value g c =
    let none = ap (λ parts. allocs_of (flat_map (coming_may_run c.args.moving.now) parts)) (no_part c.args.catalog.now c.args.object c.args.patch c.place.ensures.once c.in-None.ensures.place) in
    omega (arith, none)

pub returns-in-None-clause-records : goal.returns-in-None-clause-records
returns-in-None-clause-records g c =
    let none = ap (λ parts. records_of (flat_map (coming_may_run c.args.moving.now) parts)) (no_part c.args.catalog.now c.args.object c.args.patch c.place.ensures.once c.in-None.ensures.place) in
    omega (arith, none)
