use Rattle.std.proofs.Common.{◌≡◌, ◌⊎◌, inl, inr, Bool, true, false, not, sym, subst, ap}
use Rattle.klp_capture.specs.declared.line.PatchedState.{PatchedState}
use Rattle.klp_capture.specs.declared.line.PatchedState.TheVariants.{Unpatched, Patched}
use Rattle.klp_contradictions.specs.Impossible.{number_of, NeverWhile}
use Rattle.klp_contradictions.proofs.ImpossibleLemmas.{while_moving, while_none_moves}
use Rattle.klp_contradictions.proofs.impossible.is_never_while.Goals as goal

none_moves : (under_way : Bool) (own : PatchedState) → (own ≡ Unpatched) ⊎ (own ≡ Patched) → not under_way ≡ true → NeverWhile under_way own
none_moves true own at none = cc
none_moves false own (inl at) none = while_none_moves own 0 (ap number_of at)
none_moves false own (inr at) none = while_none_moves own 1 (ap number_of at)

pub returns-in-Undefined-clause-never : goal.returns-in-Undefined-clause-never
returns-in-Undefined-clause-never c = λ moving.
    subst (λ m. NeverWhile m c.args.state) (sym moving) (subst (NeverWhile true) (sym c.in-Undefined.is) while_moving)

pub returns-in-Unpatched-clause-never : goal.returns-in-Unpatched-clause-never
returns-in-Unpatched-clause-never c = none_moves c.args.is_under_way c.args.state c.in-Unpatched.is
