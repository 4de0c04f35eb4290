-- How the line of a patch says what its files read: patch NAME ENABLED TRANSITION [REPLACE STACK_ORDER].
use Rattle.std.specs.Prelude.{◌≡◌, ℕ, ◌==◌, ◌^◌, Bool, true, false, if◌then◌else◌, List, [], ◌∷◌, codes, bytes_eq, Option, Some, None, option_and_then}
use Rattle.klp_words.specs.Words.{decimal_of}
use Rattle.klp_capture.specs.declared.line.NewerFiles.{NewerFiles}
use Rattle.klp_capture.specs.declared.line.PatchLine.{PatchLine}

-- a file that says yes or no
abbrev pub flag_of : List ℕ → Option Bool
flag_of word = if bytes_eq word (codes "0") then Some false else if bytes_eq word (codes "1") then Some true else None

-- a place is counted from 1
abbrev pub from_one : ℕ → Option ℕ
from_one order = if order == 0 then None else Some order

abbrev pub order_of : List ℕ → Option ℕ
order_of word = option_and_then from_one (decimal_of (2 ^ 32) word)

-- a file that this kernel may not have: `-` where it doesn't
abbrev pub if_there : {X : Type 0} → (List ℕ → Option X) → List ℕ → Option (Option X)
if_there read word = if bytes_eq word (codes "-") then Some None else option_and_then (λ x. Some (Some x)) (read word)

abbrev pub flag_if_there : List ℕ → Option (Option Bool)
flag_if_there word = if_there flag_of word

abbrev pub order_if_there : List ℕ → Option (Option ℕ)
order_if_there word = if_there order_of word

-- the words behind TRANSITION: none of a kernel that has neither file
abbrev pub newer_of : List (List ℕ) → Option NewerFiles
newer_of [] = Some (record { is_cumulative = None; order = None })
newer_of (replace ∷ order ∷ []) =
    option_and_then (λ flag. option_and_then (λ place. Some (record { is_cumulative = flag; order = place })) (order_if_there order)) (flag_if_there replace)
newer_of other = None

-- words that say of a patch what was read
pub record Says (words : List (List ℕ)) (line : PatchLine) : Type 0 where
  pub enabled : List ℕ
  pub moving : List ℕ
  pub behind : List (List ℕ)
  pub are : words ≡ line.name.now ∷ enabled ∷ moving ∷ behind
  pub is_enabled : flag_of enabled ≡ Some line.is_enabled
  pub is_moving : flag_of moving ≡ Some line.is_moving
  pub is_newer : newer_of behind ≡ Some line.newer
