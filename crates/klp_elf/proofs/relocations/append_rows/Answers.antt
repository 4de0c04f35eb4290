use Rattle.std.proofs.Common.{◌≡◌, ◌≤◌, ◌/◌, ◌*◌, ◌++◌, List, length, refl, sym, subst, ap, ◌∙◌, inr, arith}
use Rattle.klp_elf.specs.Rows.{relocation_at}
use Rattle.klp_elf.specs.Tables.{first_values, rows_of}
use Rattle.klp_elf.specs.declared.elf.TheConstants.{MAX_RELOCATIONS}
use Rattle.klp_elf.specs.declared.row.Relocation.{Relocation}
use Rattle.klp_elf.proofs.LengthLemmas.{length-rows}
use Rattle.klp_elf.proofs.relocations.append_rows.Goals as goal

pub returns-then-len-table : goal.returns-then-len-table
returns-then-len-table c =
    let rows = length-rows c.args.relocations.now.items (relocation_at c.args.section) c.args.table.now in
    inr (refl, omega (arith, rows))

pub returns : goal.returns
returns c =
    let rows = length-rows c.args.relocations.now.items (relocation_at c.args.section) c.args.table.now in
    let all : c.loop-k.k ≡ length c.args.table.now / 24 = omega arith in
    let items : c.loop-k.relocations.items ≡ c.args.relocations.now.items ++ rows_of 24 (relocation_at c.args.section) c.args.table.now
    = c.loop-k.invariant ∙ ap (λ n. c.args.relocations.now.items ++ first_values (λ k. relocation_at c.args.section (24 * k) c.args.table.now) n) all in
    let few : length (c.args.relocations.now.items ++ rows_of 24 (relocation_at c.args.section) c.args.table.now) ≤ MAX_RELOCATIONS = omega (arith, rows) in
    (items, subst (λ (xs : List Relocation). length xs ≤ MAX_RELOCATIONS) (sym items) few)
