use Rattle.std.proofs.Common.{ℕ, List, [], ◌∷◌, ◌++◌, ap, ◌∙◌, append_assoc}
use Rattle.klp_capture.proofs.shown.stands.Goals as goal

-- one more line was read
pub loop-line-preserved : goal.loop-line-preserved
loop-line-preserved c =
    let earlier = c.loop-line.invariant.0 in
    (earlier ++ c.in-Some.line.now ∷ [], rw append_assoc (c.loop-line.invariant.1 ∙ ap (λ (left : List (List ℕ)). earlier ++ left) c.in-Some.ensures))
