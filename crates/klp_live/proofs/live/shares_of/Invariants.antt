-- What was taken from the end is counted, and known by the list.
use Rattle.std.proofs.Common.{◌≡◌, ◌++◌, List, length}
use Rattle.std.specs.List.{All, sum_by}
use mathlib.Core.List.{IsPrefix}
use Rattle.klp_live.specs.Seats.{Knows}
use Rattle.klp_live.proofs.live.shares_of.Given as goal

abbrev pub invariant-loop-seat : goal.invariant-loop-seat
invariant-loop-seat g l =
    (done : List Knows) × ((l.fn.seats.items ≡ l.seats.items ++ done) × (l.sum.parts ≡ length done)
    × (l.sum.amount ≡ sum_by (λ (k : Knows). k.accepted) done) × All (λ (k : Knows). IsPrefix k.list l.all) done)

abbrev pub decreases-loop-seat : goal.decreases-loop-seat
decreases-loop-seat g l = goal.left-loop-seat g l
