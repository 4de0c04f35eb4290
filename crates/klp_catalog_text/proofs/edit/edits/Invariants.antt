use Rattle.std.proofs.Common.{◌≡◌, ◌++◌, length, Ok}
use Rattle.klp_words.specs.Steps.{◌>>=◌}
use Rattle.klp_catalog_text.specs.Edits.{edits_of}
use Rattle.klp_catalog_text.proofs.edit.edits.Given as goal

-- the edits so far stand before those that are left
abbrev pub invariant-loop-word : goal.invariant-loop-word
invariant-loop-word l = edits_of l.fn.words ≡ (edits_of l.words >>= λ es. Ok (l.edits.items ++ es))

abbrev pub decreases-loop-word : goal.decreases-loop-word
decreases-loop-word l = length l.words
