use Rattle.std.proofs.Common.{◌≡◌, ◌-◌, ◌≤◌, ◌<◌, ◌⊎◌, inl, inr, List, length, map, Some, None, Ok, arith, refl, sym, ap, subst, ◌∙◌}
use Rattle.std.proofs.lemmas.List.Elements.{All-push}
use Rattle.std.specs.List.{All}
use Rattle.klp_tables.specs.Rows.{has_functions, object_at, object_row, row_of}
use Rattle.klp_tables.specs.declared.patch.Object.{Object}
use Rattle.klp_tables.specs.Faults.{room_behind}
use Rattle.klp_tables.specs.declared.limits.TheConstants.{MAX_OBJECTS}
use Rattle.klp_tables.proofs.FaultLemmas.{more_behind, object_fault, room_more}
use Rattle.klp_tables.proofs.TableLemmas.{begun_by, longer_by, row_here, table_ends}
use Rattle.klp_tables.proofs.objects.objects_to_end.Goals as goal

pub returns-in-Ok-None : goal.returns-in-Ok-None
returns-in-Ok-None c =
    let rows = c.loop-k.objects.items in
    let here = row_here (object_at c.args.elf.now c.args.layout.object) c.args.table c.args.layout.object.size (length rows) c.loop-k.k c.row_place-place.result (Ok None)
    c.loop-k.invariant.count c.row_place-place.ensures (rw c.in-Ok-None.field-0-is at c.in-Ok-None.ensures) in
    (table_ends row_of (object_row c.args.elf.now c.args.layout.object c.args.table) rows c.loop-k.invariant.rows here, c.loop-k.invariant.functions, omega arith)

-- the object behind those that were read fails
pub returns-in-Err : goal.returns-in-Err
returns-in-Err c =
    object_fault c.args.elf.now c.args.layout c.args.table c.loop-k.objects.items c.loop-k.k c.loop-k.room c.row_place-place.result c.in-Err.fault
    c.loop-k.invariant.rows c.loop-k.invariant.functions c.loop-k.invariant.count (omega arith) c.loop-k.invariant.left c.row_place-place.ensures
    c.in-Err.ensures

-- there are more than a patch may have
pub returns : goal.returns
returns c =
    inr (inr (
      refl,
      more_behind row_of (object_row c.args.elf.now c.args.layout.object c.args.table) c.loop-k.objects.items MAX_OBJECTS c.loop-k.invariant.rows
          (omega (arith, c.loop-k-test.false)),
    ))

pub loop-k-preserved : goal.loop-k-preserved
loop-k-preserved c =
    let rows = c.loop-k.objects.items in
    let read = rw c.in-Ok-Some.field-0-is at c.in-Ok-Some.ensures in
    let here = row_here (object_at c.args.elf.now c.args.layout.object) c.args.table c.args.layout.object.size (length rows) c.loop-k.k c.row_place-place.result
    (Ok (Some (row_of c.in-Ok-Some.object))) c.loop-k.invariant.count c.row_place-place.ensures read.0 in
    let count : c.len-room.result ≡ length c.in-Ok-Some.object.functions.items = omega arith in
    let less = ap (λ n. c.loop-k.room - n) count in
    record {
      rows = begun_by row_of (object_row c.args.elf.now c.args.layout.object c.args.table) rows c.push.new.self.items c.in-Ok-Some.object
          c.loop-k.invariant.rows here c.in_ok-push-in-Ok-Some.ensures.items;
      functions = subst (λ (xs : List Object). All (has_functions c.args.elf.now c.args.layout.function) xs) (sym c.in_ok-push-in-Ok-Some.ensures.items)
          (All-push (has_functions c.args.elf.now c.args.layout.function) rows c.in-Ok-Some.object c.loop-k.invariant.functions read.1);
      count = longer_by rows c.push.new.self.items c.in-Ok-Some.object c.loop-k.k c.loop-k.invariant.count
          c.in_ok-push-in-Ok-Some.ensures.items;
      small = omega arith;
      left = less ∙ room_more rows c.in-Ok-Some.object c.loop-k.room c.loop-k.invariant.left
          ∙ ap room_behind (sym c.in_ok-push-in-Ok-Some.ensures.items);
    }
