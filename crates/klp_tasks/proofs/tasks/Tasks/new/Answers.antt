use Rattle.std.proofs.Common.{refl, sym, ap, ◌∙◌, map, replicate, rules}
use Rattle.klp_types.specs.declared.limits.TheConstants.{MAX_TASKS}
use Rattle.klp_types.specs.Frames.{frames_of}
use Rattle.klp_tasks.proofs.TaskLemmas.{option_cases}
use Rattle.klp_tasks.proofs.NumberLemmas.{none_taken}
use Rattle.klp_tasks.proofs.tasks.Tasks.new.Goals as goal

pub invariant_of-result : goal.invariant_of-result
invariant_of-result c =
    let rows = c.in_ok-vec.ensures.items_if_clones_equal (option_cases _ (λ _. refl) (λ task other. absurd other)) in
    let frames = c.in_ok-vec-2.ensures.items_if_clones_equal (λ y same. search rules) in
    (c.in_ok-vec.ensures.len, c.in_ok-vec-2.ensures.len, frames ∙ ap (replicate MAX_TASKS) c.new.ensures ∙ sym (ap (map frames_of) rows), rw (c.new-2.ensures, rows) (none_taken MAX_TASKS))

pub returns : goal.returns
returns c = c.in_ok-vec.ensures.items_if_clones_equal (option_cases _ (λ _. refl) (λ task other. absurd other))
