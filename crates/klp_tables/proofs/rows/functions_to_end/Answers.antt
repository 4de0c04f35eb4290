use Rattle.std.proofs.Common.{◌≡◌, ◌≤◌, ◌<◌, ◌⊎◌, inl, inr, List, length, map, Some, None, Ok, Err, arith, refl, sym, ap, ◌∙◌}
use Rattle.klp_tables.specs.Rows.{function_at, function_meaning, function_row}
use Rattle.klp_tables.proofs.FaultLemmas.{fails_behind, more_behind}
use Rattle.klp_tables.proofs.TableLemmas.{begun_by, longer_by, row_here, table_ends}
use Rattle.klp_tables.proofs.rows.functions_to_end.Goals as goal

pub returns-in-Ok-None : goal.returns-in-Ok-None
returns-in-Ok-None c =
    let rows = c.loop-k.functions.items in
    let here = row_here (function_at c.args.elf.now c.args.layout) c.args.table c.args.layout.size (length rows) c.loop-k.k c.row_place.result (Ok None)
    c.loop-k.invariant.count c.row_place.ensures (rw c.in-Ok-None.field-0-is at c.in-Ok-None.ensures) in
    (table_ends function_meaning (function_row c.args.elf.now c.args.layout c.args.table) rows c.loop-k.invariant.rows here, omega arith)

-- the row behind those that were read fails
pub returns-in-Err : goal.returns-in-Err
returns-in-Err c =
    let rows = c.loop-k.functions.items in
    let here = row_here (function_at c.args.elf.now c.args.layout) c.args.table c.args.layout.size (length rows) c.loop-k.k c.row_place.result (Err c.in-Err.fault)
    c.loop-k.invariant.count c.row_place.ensures c.in-Err.ensures in
    inr (inl (fails_behind function_meaning (function_row c.args.elf.now c.args.layout c.args.table) rows c.args.room c.in-Err.fault c.loop-k.invariant.rows
    (omega arith) here))

-- there are more than there is room for
pub returns : goal.returns
returns c =
    inr (inr (
      refl,
      more_behind function_meaning (function_row c.args.elf.now c.args.layout c.args.table) c.loop-k.functions.items c.args.room
          c.loop-k.invariant.rows (omega (arith, c.loop-k-test.false)),
    ))

pub loop-k-preserved : goal.loop-k-preserved
loop-k-preserved c =
    let rows = c.loop-k.functions.items in
    let here = row_here (function_at c.args.elf.now c.args.layout) c.args.table c.args.layout.size (length rows) c.loop-k.k c.row_place.result
    (Ok (Some (function_meaning c.in-Ok-Some.function))) c.loop-k.invariant.count c.row_place.ensures
    (rw c.in-Ok-Some.field-0-is at c.in-Ok-Some.ensures) in
    record {
      rows = begun_by function_meaning (function_row c.args.elf.now c.args.layout c.args.table) rows c.push.new.self.items c.in-Ok-Some.function
          c.loop-k.invariant.rows here c.in_ok-push-in-Ok-Some.ensures.items;
      count = longer_by rows c.push.new.self.items c.in-Ok-Some.function c.loop-k.k c.loop-k.invariant.count
          c.in_ok-push-in-Ok-Some.ensures.items;
    }
