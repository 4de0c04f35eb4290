use Rattle.std.proofs.Common.{sym, ap, ◌∙◌, arith}
use Rattle.std.proofs.Common.{List, ℕ}
use Rattle.std.specs.List.{remove}
use Rattle.klp_world.proofs.PatchLemmas.{numbers, numbers-remove}
use Rattle.klp_world.proofs.world.World.take_out.Goals as goal

pub invariant_of-self : goal.invariant_of-self
invariant_of-self c = (
  omega (arith, c.remove-2.ensures.len, c.self.invariant.0),
  omega (arith, c.remove-2.ensures.capacity, c.self.invariant.1),
  ap numbers c.remove-2.ensures.items ∙ numbers-remove c.self.inside.patches.items c.args.place
      ∙ ap (λ (l : List ℕ). remove l c.args.place) c.self.invariant.2 ∙ sym c.remove.ensures.items,
)
