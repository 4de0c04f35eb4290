use Rattle.std.proofs.Common.{true, Some, sym, subst, ap, ◌∙◌}
use Rattle.klp_contradictions.specs.Impossible.{NeverInNew}
use Rattle.klp_contradictions.proofs.ImpossibleLemmas.{in_new_absent, in_new_moving}
use Rattle.klp_contradictions.proofs.impossible.is_never_in_new.Goals as goal

pub returns-in-None-clause-never : goal.returns-in-None-clause-never
returns-in-None-clause-never c = λ is. subst (λ files. NeverInNew files c.args.state) (sym c.in-None.is) (in_new_absent c.args.state)

pub returns-in-Unpatched-clause-never : goal.returns-in-Unpatched-clause-never
returns-in-Unpatched-clause-never c = λ moving.
    let enabled = c.in-Some.field-0-0 in
    subst (λ files. NeverInNew files c.args.state) (sym (c.in-Some.is ∙ ap (λ m. Some (enabled, m)) moving))
    (subst (NeverInNew (Some (enabled, true))) (sym c.in-Unpatched.is) (in_new_moving enabled))
