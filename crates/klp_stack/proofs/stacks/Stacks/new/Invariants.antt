use Rattle.std.proofs.Common.{◌≡◌, replicate}
use Rattle.klp_stack.proofs.OpeningLemmas.{no_entry}
use Rattle.klp_stack.proofs.stacks.Stacks.new.Given as goal

abbrev pub invariant-loop : goal.invariant-loop
invariant-loop l = l.chains.items ≡ replicate l.counter no_entry
