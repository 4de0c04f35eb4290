use Rattle.klp_lint.proofs.UndoneLemmas.{ArePassed, left_over}
use Rattle.klp_lint.proofs.undone.left_of_id.Given as goal

-- the variables of the id whose parent objects are below the next one are restored
abbrev pub invariant-loop-next : goal.invariant-loop-next
invariant-loop-next g l = ArePassed (g.V.Variables.values l.variables) l.callbacks l.id l.next

abbrev pub decreases-loop-next : goal.decreases-loop-next
decreases-loop-next g l = left_over l.next
