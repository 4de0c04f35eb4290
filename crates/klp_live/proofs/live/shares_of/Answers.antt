-- Each seat that is taken from the end goes in front of those that are counted.
use Rattle.std.proofs.Common.{◌≡◌, ◌++◌, List, [], ◌∷◌, length, refl, sym, ap, subst, ◌∙◌, append_assoc, arith, rules}
use Rattle.std.specs.List.{All}
use Rattle.std.proofs.lemmas.List.Elements.{All-nil, All-cons}
use Rattle.std.proofs.lemmas.List.Sums.{sum_by-cons}
use mathlib.Core.List.{IsPrefix}
use Rattle.klp_live.specs.Seats.{Knows}
use Rattle.klp_live.proofs.live.shares_of.Goals as goal

nothing : {A : Type 0} (xs : List A) → length xs ≡ 0 → xs ≡ []
nothing [] e = refl
nothing (x ∷ xs) e = cc

pub loop-seat-init : goal.loop-seat-init
loop-seat-init g c =
    let own = c.share_of-sum.ensures in (
      c.in-Some.last ∷ [],
      (
        c.in-Some.ensures.items,
        own.parts,
        omega (arith, own.amount, sum_by-cons (λ (k : Knows). k.accepted) c.in-Some.last []),
        All-cons (λ (k : Knows). IsPrefix k.list c.args.all.now) c.in-Some.last [] own.known
            (All-nil (λ (k : Knows). IsPrefix k.list c.args.all.now)),
      ),
    )

pub loop-seat-preserved : goal.loop-seat-preserved
loop-seat-preserved g c =
    let was = c.loop-seat.invariant in
    let own = c.share_of.ensures in (
      c.in-Some-pop.seat ∷ was.0,
      (
        was.1.0 ∙ ap (λ xs. xs ++ was.0) c.in-Some-pop.ensures.items ∙ append_assoc c.pop-in-loop-seat.new.self.items (c.in-Some-pop.seat ∷ []) was.0,
        omega (arith, c.merge.ensures.parts, own.parts, was.1.1),
        omega (arith, c.merge.ensures.amount, own.amount, was.1.2, sum_by-cons (λ (k : Knows). k.accepted) c.in-Some-pop.seat was.0),
        All-cons (λ (k : Knows). IsPrefix k.list c.args.all.now) c.in-Some-pop.seat was.0 own.known was.1.3,
      ),
    )

pub returns-clause-known : goal.returns-clause-known
returns-clause-known g c =
    let was = c.loop-seat.invariant in
    let empty : c.loop-seat.seats.items ≡ [] = nothing c.loop-seat.seats.items (search rules) in
    subst (All (λ (k : Knows). IsPrefix k.list c.args.all.now)) (sym (was.1.0 ∙ ap (λ xs. xs ++ was.0) empty)) was.1.3
