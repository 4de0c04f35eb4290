use Rattle.std.proofs.Common.{◌≡◌, ◌+◌, ◌<◌, ℕ, length}
use Rattle.klp_stack.specs.Pool.{slot_at}
use Rattle.klp_stack.proofs.stacks.free_pool.Given as goal

abbrev pub invariant-loop-number : goal.invariant-loop-number
invariant-loop-number l = record {
  count : length l.slots.items ≡ l.number;
  links : (number : ℕ) → number < length l.slots.items → (slot_at l.slots.items number).older ≡ number + 1;
}
