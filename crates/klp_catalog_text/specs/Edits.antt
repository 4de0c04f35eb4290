-- How the edits of a callback are spelled, and the script of a status and edits.
use Rattle.std.specs.Prelude.{ℕ, ℤ, ◌^◌, ◌==◌, Bool, if◌then◌else◌, List, [], ◌∷◌, codes, Option, Some, None, ok_or, Result, Ok, Err, bytes_eq}
use Rattle.std.specs.List.{slice_split}
use Rattle.klp_types.specs.declared.edit.Edit.{Edit}
use Rattle.klp_types.specs.declared.edit.Edit.TheVariants.{Alloc, Free, FreeAll, SetData, TakePrev}
use Rattle.klp_types.specs.Script.{Script, is_success}
use Rattle.klp_types.specs.World.{ShadowValue}
use Rattle.klp_catalog_text.specs.declared.fault.TextFaultKind.{TextFaultKind}
use Rattle.klp_catalog_text.specs.declared.fault.TextFaultKind.TheVariants.{WrongCount, BadNumber, BadEdit}
use Rattle.klp_words.specs.Words.{decimal_of, shadow_value_of, status_of}
use Rattle.klp_words.specs.Steps.{◌>>=◌}

-- the parts of a word: colons separate them
abbrev pub parts_of : List ℕ → List (List ℕ)
parts_of word = slice_split (λ b. b == 58) word

-- the parts that are left to read; none once the last was read
abbrev pub parts_left : Bool → List ℕ → List (List ℕ)
parts_left is_over rest = if is_over then [] else parts_of rest

-- a number of 64 bits
abbrev pub edit_number : List ℕ → Result ℕ TextFaultKind
edit_number part = ok_or (decimal_of (2 ^ 64) part) BadEdit

-- the value of a shadow variable
abbrev pub edit_value : List ℕ → Result ShadowValue TextFaultKind
edit_value part = ok_or (shadow_value_of part) BadEdit

-- exactly one number
abbrev pub one_number : List (List ℕ) → Result ℕ TextFaultKind
one_number (part ∷ []) = edit_number part
one_number parts = Err BadEdit

-- exactly two numbers
abbrev pub two_numbers : List (List ℕ) → Result (ℕ × ℕ) TextFaultKind
two_numbers (first ∷ second ∷ []) = edit_number first >>= λ m. edit_number second >>= λ n. Ok (m, n)
two_numbers parts = Err BadEdit

-- alloc:OBJ:ID:VALUE
abbrev pub alloc_of : List (List ℕ) → Result Edit TextFaultKind
alloc_of (obj ∷ id ∷ value ∷ []) = edit_number obj >>= λ o. edit_number id >>= λ i. edit_value value >>= λ v. Ok (Alloc (record { obj = o; id = i }) v)
alloc_of parts = Err BadEdit

-- free:OBJ:ID
abbrev pub free_of : List (List ℕ) → Result Edit TextFaultKind
free_of (obj ∷ id ∷ []) = edit_number obj >>= λ o. edit_number id >>= λ i. Ok (Free (record { obj = o; id = i }))
free_of parts = Err BadEdit

-- freeall:ID
abbrev pub free_all_of : List (List ℕ) → Result Edit TextFaultKind
free_all_of (id ∷ []) = edit_number id >>= λ i. Ok (FreeAll i)
free_all_of parts = Err BadEdit

-- set:STATE:VALUE
abbrev pub set_of : List (List ℕ) → Result Edit TextFaultKind
set_of (state ∷ value ∷ []) = edit_number state >>= λ s. edit_number value >>= λ v. Ok (SetData s v)
set_of parts = Err BadEdit

-- takeprev:STATE
abbrev pub take_prev_of : List (List ℕ) → Result Edit TextFaultKind
take_prev_of (state ∷ []) = edit_number state >>= λ s. Ok (TakePrev s)
take_prev_of parts = Err BadEdit

-- the edit of these parts: the first part is its name
abbrev pub edit_of_parts : List (List ℕ) → Result Edit TextFaultKind
edit_of_parts [] = Err BadEdit
edit_of_parts (name ∷ parts) =
    if bytes_eq name (codes "alloc") then alloc_of parts
    else if bytes_eq name (codes "free") then free_of parts
    else if bytes_eq name (codes "freeall") then free_all_of parts
    else if bytes_eq name (codes "set") then set_of parts
    else if bytes_eq name (codes "takeprev") then take_prev_of parts
    else Err BadEdit

abbrev pub edit_of : List ℕ → Result Edit TextFaultKind
edit_of word = edit_of_parts (parts_of word)

-- the edits of these words, one each
abbrev pub edits_of : List (List ℕ) → Result (List Edit) TextFaultKind
edits_of [] = Ok []
edits_of (word ∷ words) = edit_of word >>= λ e. edits_of words >>= λ es. Ok (e ∷ es)

-- the script of a callback that fails: no word may follow the status
abbrev pub failure_of : ℤ → List (List ℕ) → Result Script TextFaultKind
failure_of status [] = Ok (record { edits = []; status = status })
failure_of status words = Err WrongCount

-- the script of a status and the words after it; the words are edits if the status is 0
abbrev pub script_with : Option ℤ → List (List ℕ) → Result Script TextFaultKind
script_with None words = Err BadNumber
script_with (Some status) words =
    if is_success status then (edits_of words >>= λ es. Ok (record { edits = es; status = status })) else failure_of status words

-- the script of these words: a status, and the words after it
abbrev pub script_of : List (List ℕ) → Result Script TextFaultKind
script_of [] = Err WrongCount
script_of (status ∷ words) = script_with (status_of status) words
