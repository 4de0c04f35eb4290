use Rattle.std.proofs.Common.{sym, ap, ◌∙◌, arith, List, ℕ, length}
use Rattle.std.specs.List.{insert}
use Rattle.klp_types.specs.World.{World}
use Rattle.klp_world.proofs.PatchLemmas.{numbers, numbers-insert}
use Rattle.klp_world.proofs.world.World.put_at.Goals as goal

pub invariant_of-self : goal.invariant_of-self
invariant_of-self c =
    let rows = ap (λ (w : World). length w.installed) c.self.view_is in
    let done = c.insert-2.ensures.succeeds (omega (arith, c.requires.room, c.self.invariant.1)) in
    let items = c.insert-2.ensures.items in
    let len = c.insert-2.ensures.len in
    let put = rw done at items in
    let longer = rw done at len in (
      omega (arith, c.requires.room, longer),
      omega (arith, c.insert-2.ensures.capacity, c.self.invariant.1),
      ap numbers put ∙ numbers-insert c.self.inside.patches.items c.args.place c.args.installed
          ∙ ap (λ (l : List ℕ). insert l c.args.place c.args.installed.patch) c.self.invariant.2
          ∙ ap (insert c.self.inside.installed.items c.args.place) (sym c.patch.ensures) ∙ sym c.insert.ensures.items,
    )
