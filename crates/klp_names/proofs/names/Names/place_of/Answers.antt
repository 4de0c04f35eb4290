use Rattle.std.proofs.Common.{rules}
use Rattle.std.proofs.lemmas.List.Sorted.{answers_always}
use Rattle.klp_names.proofs.SearchLemmas.{searched}
use Rattle.klp_names.proofs.names.Names.place_of.Goals as goal

-- the closure gives a line, and the slice has the lines with their times
pub returns : goal.returns
returns c =
    let facts = c.binary_search_by_key.ensures in
    let by_key = facts.position (λ timed. timed.line) (answers_always _ _ _ (λ f a r g called. search rules)) in
    rw (← c.self.view_is, ← c.deref.ensures.value) (searched _ (rw c.deref.ensures.value c.self.invariant) c.args.line _ facts.bound by_key)
