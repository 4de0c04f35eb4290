use Rattle.std.proofs.Common.{◌≡◌, ◌+◌, ◌*◌, ◌⊎◌, inr, length, arith, sym, ap, ◌∙◌}
use Rattle.klp_tables.specs.Rows.{object_row, row_of}
use Rattle.klp_tables.proofs.FaultLemmas.{or_wider, other_size}
use Rattle.klp_tables.proofs.objects.object_table.Goals as goal

pub returns-in-Err : goal.returns-in-Err
returns-in-Err c = or_wider c.in-Err.ensures

-- the variable has another size
pub returns : goal.returns
returns c =
    let count : c.len.result ≡ length c.in-Ok.objects.items = omega arith in
    inr (inr (inr (other_size row_of (object_row c.args.elf.now c.args.layout.object c.args.table) c.in-Ok.objects.items c.args.elf.now
    c.args.table c.args.layout.object.size c.bytes_of_rows-wanted.result c.in-Ok.ensures.0
    (c.bytes_of_rows-wanted.ensures ∙ ap (λ n. c.args.layout.object.size * (n + 1)) count)
    (sym c.has_size.ensures ∙ c.if-has_size.false))))
