use Rattle.std.proofs.Common.{Some, sym, subst}
use Rattle.klp_contradictions.specs.Impossible.{NeverInOriginal}
use Rattle.klp_contradictions.proofs.ImpossibleLemmas.{in_original_patched, in_original_settled}
use Rattle.klp_contradictions.proofs.impossible.is_never_in_original.Goals as goal

pub returns-then-is_enabled-clause-never : goal.returns-then-is_enabled-clause-never
returns-then-is_enabled-clause-never c = λ is.
    subst (λ files. NeverInOriginal files c.args.state) (sym c.in-Some.is)
    (subst (NeverInOriginal (Some (c.in-Some.is_enabled, c.in-Some.is_moving))) (sym c.in-Patched.is) (in_original_patched c.in-Some.is_enabled c.in-Some.is_moving))

pub returns-else-is_enabled-clause-never : goal.returns-else-is_enabled-clause-never
returns-else-is_enabled-clause-never c = λ is.
    subst (λ files. NeverInOriginal files c.args.state) (sym c.in-Some.is)
    (subst (NeverInOriginal (Some (c.in-Some.is_enabled, c.in-Some.is_moving))) (sym c.in-Patched.is) (in_original_patched c.in-Some.is_enabled c.in-Some.is_moving))

pub returns-then-is_enabled-2-clause-never : goal.returns-then-is_enabled-2-clause-never
returns-then-is_enabled-2-clause-never c = λ settled.
    subst (λ files. NeverInOriginal files c.args.state) (sym c.in-Some.is) (in_original_settled c.in-Some.is_enabled c.in-Some.is_moving c.args.state settled)
