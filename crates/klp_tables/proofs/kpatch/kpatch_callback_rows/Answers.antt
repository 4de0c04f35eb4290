use Rattle.std.proofs.Common.{◌≡◌, ◌⊎◌, ℕ, Bor, List, inr, map, Ok, Err, sym, ap, ◌∙◌, arith}
use Rattle.klp_tables.specs.Kpatch.{callback_behind, kpatch_callback_row}
use Rattle.klp_tables.proofs.CountedLemmas.{fails_for_all, one_more_row}
use Rattle.klp_tables.proofs.kpatch.kpatch_callback_rows.Goals as goal

pub returns-in-Err : goal.returns-in-Err
returns-in-Err c =
    let names = map (λ (n : Bor (List ℕ)). n.now) c.loop-k.names.items in
    inr (fails_for_all (kpatch_callback_row c.args.elf.now c.args.table) c.loop-k.k c.args.count names c.in-Err.fault c.loop-k.invariant
    (ap (λ p. callback_behind c.args.elf.now p names) (sym c.row_place.ensures)
    ∙ ap (λ xs. callback_behind c.args.elf.now c.row_place.result (map (λ (n : Bor (List ℕ)). n.now) xs)) (sym c.deref.ensures.value) ∙ c.in-Err.ensures) (omega arith))

pub loop-k-preserved : goal.loop-k-preserved
loop-k-preserved c =
    let names = map (λ (n : Bor (List ℕ)). n.now) c.loop-k.names.items in
    one_more_row (kpatch_callback_row c.args.elf.now c.args.table) (λ (n : Bor (List ℕ)). n.now) c.loop-k.k c.loop-k.names.items
    c.push.new.self.items c.in-Ok.name c.loop-k.invariant
    (ap (λ p. callback_behind c.args.elf.now p names) (sym c.row_place.ensures)
    ∙ ap (λ xs. callback_behind c.args.elf.now c.row_place.result (map (λ (n : Bor (List ℕ)). n.now) xs)) (sym c.deref.ensures.value) ∙ c.in-Ok.ensures)
    c.in_ok-push-in-Ok.ensures.items
