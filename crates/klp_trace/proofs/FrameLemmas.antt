-- Frames that are read one after another.
use Rattle.std.proofs.Common.{◌≡◌, ℕ, suc, ◌+◌, ◌<◌, ◌≤◌, Bool, true, false, nat_lt, if◌then◌else◌, List, [], ◌∷◌, ◌++◌, length, take, get_or, Option, Some, None, option_map, refl, sym, ap, ◌∙◌, append_assoc, append-nil, arith, add-zero, zero-add, length-append}
use Rattle.std.specs.Prelude.{option_and_then}
use Rattle.std.proofs.lemmas.Bool.Decides.{nat_tests}
use Rattle.klp_types.specs.declared.version.Version.{Version}
use Rattle.klp_core.specs.Journaled.{Journaled}
use Rattle.klp_trace.specs.Names.{version_of, versions_of, frames_of}

-- what becomes of frames so far, and words that are left
abbrev pub frames_on : Journaled → List Version → List (List ℕ) → Option (List Version)
frames_on manager frames words =
    if nat_lt 32 (length frames + length words) then None else option_map (λ versions. frames ++ versions) (versions_of manager words)

same_option : (o : Option (List Version)) → o ≡ option_map (λ versions. [] ++ versions) o
same_option None = refl
same_option (Some versions) = refl

pub frames_begin : (manager : Journaled) (words : List (List ℕ)) → frames_of manager words ≡ frames_on manager [] words
frames_begin manager words =
    ap (λ n. if nat_lt 32 n then None else versions_of manager words) (sym (zero-add (length words)))
    ∙ ap (λ o. if nat_lt 32 (0 + length words) then None else o) (same_option (versions_of manager words))

pub frames_end : (manager : Journaled) (frames : List Version) → length frames ≤ 32 → frames_on manager frames [] ≡ Some frames
frames_end manager frames few =
    let test : nat_lt 32 (length frames + 0) ≡ false = grind (arith, nat_tests) in
    rw test (ap Some (append-nil frames))

pub frames_none : (manager : Journaled) (frames : List Version) (word : List ℕ) (words : List (List ℕ)) → version_of manager word ≡ None → frames_on manager frames (word ∷ words) ≡ None
frames_none manager frames word words none = by (nat_lt 32 (length frames + length (word ∷ words)))
  where
    by : (b : Bool) → (if b then None else option_map (λ versions. frames ++ versions) (versions_of manager (word ∷ words))) ≡ None
    by true = refl
    by false = ap (λ o. option_map (λ versions. frames ++ versions) (option_and_then (λ version. option_map (λ versions. version ∷ versions) (versions_of manager words)) o)) none

pub frames_full : (manager : Journaled) (frames : List Version) (word : List ℕ) (words : List (List ℕ)) → 32 ≤ length frames → frames_on manager frames (word ∷ words) ≡ None
frames_full manager frames word words many =
    let test : nat_lt 32 (length frames + length (word ∷ words)) ≡ true = grind (arith, nat_tests) in
    rw test refl

behind : (frames : List Version) (version : Version) (o : Option (List Version))
    → option_map (λ versions. frames ++ versions) (option_map (λ versions. version ∷ versions) o) ≡ option_map (λ versions. (frames ++ version ∷ []) ++ versions) o
behind frames version None = refl
behind frames version (Some versions) = ap Some (sym (append_assoc frames (version ∷ []) versions))

pub frames_more : (manager : Journaled) (frames : List Version) (word : List ℕ) (words : List (List ℕ)) (version : Version)
    → version_of manager word ≡ Some version → frames_on manager frames (word ∷ words) ≡ frames_on manager (frames ++ version ∷ []) words
frames_more manager frames word words version is =
    let count : length frames + length (word ∷ words) ≡ length (frames ++ version ∷ []) + length words = omega (arith, length-append {A = Version}) in
    ap (λ n. if nat_lt 32 n then None else option_map (λ versions. frames ++ versions) (versions_of manager (word ∷ words))) count
    ∙ ap (λ o. if nat_lt 32 (length (frames ++ version ∷ []) + length words) then None
    else option_map (λ versions. frames ++ versions) (option_and_then (λ v. option_map (λ versions. v ∷ versions) (versions_of manager words)) o)) is
    ∙ ap (λ (o : Option (List Version)). if nat_lt 32 (length (frames ++ version ∷ []) + length words) then None else o) (behind frames version (versions_of manager words))
