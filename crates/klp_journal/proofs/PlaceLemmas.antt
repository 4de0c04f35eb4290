-- Words that are written one behind another, over what is there.
use Rattle.std.proofs.Common.{◌≡◌, ℕ, ◌+◌, ◌<◌, List, [], ◌∷◌, ◌++◌, length, take, set, ap, ◌∙◌, append_assoc, arith}
use Rattle.std.proofs.lemmas.List.{take_more_set}

-- one word more
pub one_more : (words before done : List ℕ) (at k word : ℕ) → at + k < length words → take (at + k) words ≡ before ++ done
    → take (at + (k + 1)) (set words (at + k) word) ≡ before ++ (done ++ word ∷ [])
one_more words before done at k word within h =
    ap (λ n. take n (set words (at + k) word)) further
    ∙ take_more_set words (at + k) word within
    ∙ ap (λ xs. xs ++ word ∷ []) h
    ∙ append_assoc before done (word ∷ [])
  where
    further : at + (k + 1) ≡ at + k + 1
    further = omega arith
