use Rattle.std.proofs.Common.{subst, ap}
use mathlib.Core.List.{IsPrefix}
use Rattle.klp_model.specs.Legal.{History}
use Rattle.klp_live.proofs.Fronts.{covers_either}
use Rattle.klp_live.proofs.history.Front.covers.Goals as goal

pub returns-clause-begins : goal.returns-clause-begins
returns-clause-begins g c =
    let both = c.learn.new.self.log in
    let this : IsPrefix c.self.inside.seen.log both = subst (λ (l : History). IsPrefix l both) (ap (λ s. s.log) c.again-both.ensures) c.learn.ensures.2 in
    rw (← c.self.view_is, ← c.other.view_is) (covers_either c.self.inside.seen.log c.other.inside.seen.log both c.self.inside.rows c.other.inside.rows c.self.invariant.0 c.other.invariant.0 this c.learn.ensures.3)
