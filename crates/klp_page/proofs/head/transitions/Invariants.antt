use Rattle.std.proofs.Common.{◌≡◌, ◌+◌, ◌≤◌, drop}
use Rattle.std.specs.List.{count_by}
use Rattle.klp_page.specs.Text.{is_start}
use Rattle.klp_page.proofs.head.transitions.Given as goal

-- how many there were so far, and how many are left
abbrev pub invariant-loop-sentence : goal.invariant-loop-sentence
invariant-loop-sentence l =
    (l.count ≤ l.sentence-index) × (l.count + count_by is_start (drop l.sentence-index l.fn.sentences) ≡ count_by is_start l.fn.sentences)
