use Rattle.std.proofs.Common.{◌≡◌, ◌⊎◌, ◌-◌, ◌≤◌, ℕ, inl, inr, length, map, Ok, Err, sym, ap, ◌∙◌, arith}
use Rattle.klp_tables.specs.Counted.{rows_below, target_meaning}
use Rattle.klp_tables.specs.KlpBuild.{built_target_at, built_target_row}
use Rattle.klp_tables.specs.Rows.{row_place}
use Rattle.klp_tables.specs.declared.fault.TableFault.{TableFault}
use Rattle.klp_tables.specs.declared.fault.TableFault.TheVariants.{NoMemory}
use Rattle.klp_tables.proofs.CountedLemmas.{fails_for_all, one_more_row, room_less}
use Rattle.klp_tables.proofs.klp_build.built_target_rows.Goals as goal

failed : {P Q : Type 0} (fault : TableFault) → (P → Q) → (fault ≡ NoMemory) ⊎ P → (fault ≡ NoMemory) ⊎ Q
failed fault f (inl e) = inl e
failed fault f (inr e) = inr (f e)

pub returns-in-Err : goal.returns-in-Err
returns-in-Err c =
    let targets = map target_meaning c.loop-k.objects.items in
    failed c.in-Err.fault
    (λ e. fails_for_all (built_target_row c.args.elf.now c.args.table) c.loop-k.k c.args.count targets c.in-Err.fault c.loop-k.invariant.rows
    (ap (λ r. built_target_at c.args.elf.now (row_place c.args.table 64 c.loop-k.k) r) (sym c.loop-k.invariant.left)
    ∙ ap (λ p. built_target_at c.args.elf.now p c.loop-k.room) (sym c.row_place.ensures) ∙ e) (omega arith))
    c.in-Err.ensures

pub loop-k-preserved : goal.loop-k-preserved
loop-k-preserved c =
    let count : c.len-room.result ≡ length c.in-Ok.object.functions.items = omega arith in
    record {
      rows = one_more_row (built_target_row c.args.elf.now c.args.table) target_meaning c.loop-k.k c.loop-k.objects.items
          c.push.new.self.items c.in-Ok.object c.loop-k.invariant.rows
          (ap (λ r. built_target_at c.args.elf.now (row_place c.args.table 64 c.loop-k.k) r) (sym c.loop-k.invariant.left)
          ∙ ap (λ p. built_target_at c.args.elf.now p c.loop-k.room) (sym c.row_place.ensures) ∙ c.in-Ok.ensures.0)
          c.in_ok-push-in-Ok.ensures.items;
      small = omega arith;
      left = ap (λ n. c.loop-k.room - n) count
          ∙ room_less c.loop-k.objects.items c.push.new.self.items c.in-Ok.object c.loop-k.room c.loop-k.invariant.left
          c.in_ok-push-in-Ok.ensures.items;
    }
