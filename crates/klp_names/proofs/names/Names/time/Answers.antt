use Rattle.std.proofs.Common.{sym, subst, arith}
use Rattle.std.proofs.lemmas.List.{get_or_default}
use Rattle.klp_names.specs.Names.{Names, DoLinesRise}
use Rattle.klp_names.proofs.SearchLemmas.{never, time_at, time_in_gap}
use Rattle.klp_names.proofs.names.Names.time.Goals as goal

-- the line is at its place, and the time there is the one that was read
pub returns-in-Ok : goal.returns-in-Ok
returns-in-Ok c =
    let found = time_at _ (subst (λ (names : Names). DoLinesRise names.timed) c.self.view_is c.self.invariant) _ _ c.in-Ok.ensures.found in
    let read = get_or_default _ _ c.index.result.now never c.in-Ok.ensures.found.in_range in
    grind (arith, c.self.view_is)

pub returns-in-Err : goal.returns-in-Err
returns-in-Err c = sym (time_in_gap _ (subst (λ (names : Names). DoLinesRise names.timed) c.self.view_is c.self.invariant) _ _ c.in-Err.ensures.absent)
