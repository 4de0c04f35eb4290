use Rattle.std.proofs.Common.{◌≡◌, ◌⊎◌, inr, map, Ok, Err, sym, ap, ◌∙◌, arith}
use Rattle.klp_tables.specs.Counted.{function_by}
use Rattle.klp_tables.specs.KlpBuild.{built_function_row}
use Rattle.klp_tables.specs.Rows.{function_meaning, moved}
use Rattle.klp_tables.proofs.CountedLemmas.{fails_for_all, one_more_row}
use Rattle.klp_tables.proofs.TableLemmas.{longer_by}
use Rattle.klp_tables.proofs.klp_build.built_function_rows.Goals as goal

pub returns-in-Err : goal.returns-in-Err
returns-in-Err c =
    let here : built_function_row c.args.elf.now c.args.table c.loop-k.k (map function_meaning c.loop-k.functions.items) ≡ Err c.in-Err.fault
    = ap (λ p. function_by c.args.elf.now p (moved p 8) (moved p 16)) (sym c.row_place-place.ensures)
    ∙ ap (λ q. function_by c.args.elf.now c.row_place-place.result q (moved c.row_place-place.result 16)) (sym c.moved.ensures)
    ∙ ap (λ q. function_by c.args.elf.now c.row_place-place.result c.moved.result q) (sym c.moved-in-loop-k.ensures) ∙ c.in-Err.ensures in
    inr (fails_for_all (built_function_row c.args.elf.now c.args.table) c.loop-k.k c.args.count (map function_meaning c.loop-k.functions.items)
    c.in-Err.fault c.loop-k.invariant.rows here (omega arith))

pub loop-k-preserved : goal.loop-k-preserved
loop-k-preserved c =
    let here : built_function_row c.args.elf.now c.args.table c.loop-k.k (map function_meaning c.loop-k.functions.items)
    ≡ Ok (function_meaning c.in-Ok.function)
    = ap (λ p. function_by c.args.elf.now p (moved p 8) (moved p 16)) (sym c.row_place-place.ensures)
    ∙ ap (λ q. function_by c.args.elf.now c.row_place-place.result q (moved c.row_place-place.result 16)) (sym c.moved.ensures)
    ∙ ap (λ q. function_by c.args.elf.now c.row_place-place.result c.moved.result q) (sym c.moved-in-loop-k.ensures) ∙ c.in-Ok.ensures in
    record {
      rows = one_more_row (built_function_row c.args.elf.now c.args.table) function_meaning c.loop-k.k c.loop-k.functions.items
          c.push.new.self.items c.in-Ok.function c.loop-k.invariant.rows here c.in_ok-push-in-Ok.ensures.items;
      count = longer_by c.loop-k.functions.items c.push.new.self.items c.in-Ok.function c.loop-k.k c.loop-k.invariant.count
          c.in_ok-push-in-Ok.ensures.items;
    }
