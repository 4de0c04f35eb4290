use Rattle.std.proofs.Common.{Some, sym, subst, ap, ◌∙◌}
use Rattle.klp_contradictions.specs.Impossible.{NeverAboveOlder}
use Rattle.klp_contradictions.proofs.ImpossibleLemmas.{above_older_settled, not_true}
use Rattle.klp_contradictions.proofs.impossible.is_never_above_older.Goals as goal

pub returns-in-Some-clause-never : goal.returns-in-Some-clause-never
returns-in-Some-clause-never c = λ settled.
    let enabled = c.in-Some.field-0-0 in
    subst NeverAboveOlder (sym (c.in-Some.is ∙ ap (λ m. Some (enabled, m)) (not_true c.in-Some.is_moving settled))) (above_older_settled enabled)
