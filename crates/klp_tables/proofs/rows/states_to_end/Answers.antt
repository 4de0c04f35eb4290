use Rattle.std.proofs.Common.{◌≡◌, ◌≤◌, ◌<◌, ◌⊎◌, inl, inr, List, length, Some, None, Ok, Err, arith, refl, sym, ap, ◌∙◌}
use Rattle.klp_tables.specs.Rows.{state_at, state_row}
use Rattle.klp_tables.proofs.TableLemmas.{begun_with, longer_by, row_here, table_ends_with}
use Rattle.klp_tables.proofs.rows.states_to_end.Goals as goal

pub returns-in-Ok-None : goal.returns-in-Ok-None
returns-in-Ok-None c =
    let rows = c.loop-k.states.items in
    let read : state_at c.args.elf.now c.args.layout c.row_place.result ≡ Ok None = cc in
    let here = row_here (state_at c.args.elf.now c.args.layout) c.args.table c.args.layout.size (length rows) c.loop-k.k c.row_place.result (Ok None)
    c.loop-k.invariant.count c.row_place.ensures read in
    (table_ends_with (state_row c.args.elf.now c.args.layout c.args.table) rows c.loop-k.invariant.rows here, omega arith)

-- the row behind those that were read fails
pub returns-in-Err : goal.returns-in-Err
returns-in-Err c =
    let rows = c.loop-k.states.items in
    let read : state_at c.args.elf.now c.args.layout c.row_place.result ≡ Err c.in-Err.fault = cc in
    let here = row_here (state_at c.args.elf.now c.args.layout) c.args.table c.args.layout.size (length rows) c.loop-k.k c.row_place.result (Err c.in-Err.fault)
    c.loop-k.invariant.count c.row_place.ensures read in
    inr (inl (rows, c.loop-k.invariant.rows, omega arith, here))

-- there are more than a patch may have
pub returns : goal.returns
returns c = inr (inr (refl, (c.loop-k.states.items, c.loop-k.invariant.rows, omega (arith, c.loop-k-test.false))))

pub loop-k-preserved : goal.loop-k-preserved
loop-k-preserved c =
    let rows = c.loop-k.states.items in
    let read : state_at c.args.elf.now c.args.layout c.row_place.result ≡ Ok (Some c.in-Ok-Some.state) = cc in
    let here = row_here (state_at c.args.elf.now c.args.layout) c.args.table c.args.layout.size (length rows) c.loop-k.k c.row_place.result
    (Ok (Some c.in-Ok-Some.state)) c.loop-k.invariant.count c.row_place.ensures read in
    record {
      rows = begun_with (state_row c.args.elf.now c.args.layout c.args.table) rows c.push.new.self.items c.in-Ok-Some.state
          c.loop-k.invariant.rows here c.in_ok-push-in-Ok-Some.ensures.items;
      count = longer_by rows c.push.new.self.items c.in-Ok-Some.state c.loop-k.k c.loop-k.invariant.count
          c.in_ok-push-in-Ok-Some.ensures.items;
    }
