-- Who holds a transition up, among more and more holders.
use Rattle.std.proofs.Common.{◌≡◌, ℕ, Bool, true, false, List, [], ◌∷◌, ◌++◌, refl, sym, ap, ◌∙◌, append_assoc}
use Rattle.std.specs.Prelude.{if◌then◌else◌}
use Rattle.klp_capture_report.specs.declared.report.HolderReport.{HolderReport}
use Rattle.klp_capture_holders.specs.Holding.{still_at, still_held}

still_held_append : (xs ys : List HolderReport) → still_held (xs ++ ys) ≡ still_held xs ++ still_held ys
still_held_append [] ys = refl
still_held_append (x ∷ xs) ys =
    ap (λ (threads : List ℕ). still_at x ++ threads) (still_held_append xs ys) ∙ sym (append_assoc (still_at x) (still_held xs) (still_held ys))

right_empty : (xs : List ℕ) → xs ++ [] ≡ xs
right_empty [] = refl
right_empty (x ∷ xs) = ap (λ (more : List ℕ). x ∷ more) (right_empty xs)

none_at : (still : Bool) (thread : ℕ) → still ≡ false → (if still then thread ∷ [] else []) ++ [] ≡ []
none_at true thread past = cc
none_at false thread past = refl

one_at : (still : Bool) (own thread : ℕ) → still ≡ true → own ≡ thread → (if still then own ∷ [] else []) ++ [] ≡ thread ∷ []
one_at true own thread holds same = ap (λ (x : ℕ). x ∷ []) same
one_at false own thread holds same = cc

-- one more that holds it up no longer
pub one_past : (before after : List HolderReport) (entry : HolderReport) → after ≡ before ++ entry ∷ [] → entry.holds_still ≡ false
    → still_held after ≡ still_held before
one_past before after entry is past =
    ap still_held is ∙ still_held_append before (entry ∷ [])
    ∙ ap (λ (threads : List ℕ). still_held before ++ threads) (none_at entry.holds_still entry.task.thread past) ∙ right_empty (still_held before)

-- one more that holds it up still
pub one_still : (before after : List HolderReport) (entry : HolderReport) (thread : ℕ) → after ≡ before ++ entry ∷ []
    → entry.holds_still ≡ true → entry.task.thread ≡ thread → still_held after ≡ still_held before ++ thread ∷ []
one_still before after entry thread is holds same =
    ap still_held is ∙ still_held_append before (entry ∷ [])
    ∙ ap (λ (threads : List ℕ). still_held before ++ threads) (one_at entry.holds_still entry.task.thread thread holds same)
