-- How a script is written in a line.
use Rattle.std.specs.Prelude.{◌≡◌, ℕ, ◌^◌, ◌<◌, ◌≤◌, false, List, [], ◌∷◌, length, map, codes, FitsSigned}
use Rattle.std.specs.List.{AllByRecursion, join_with_byte}
use Rattle.std.specs.Fmt.{decimal, signed_decimal}
use Rattle.std.specs.Int.{w32}
use Rattle.hex.specs.Hex.{IsBytes}
use Rattle.klp_types.specs.declared.edit.Edit.{Edit}
use Rattle.klp_types.specs.declared.edit.Edit.TheVariants.{Alloc, Free, FreeAll, SetData, TakePrev}
use Rattle.klp_types.specs.declared.limits.TheConstants.{MAX_VALUE_BYTES}
use Rattle.klp_types.specs.Script.{Script, is_success}
use Rattle.klp_types.specs.World.{ShadowValue}
use Rattle.klp_words.specs.Words.{value_text}

-- the parts of an edit: its name, its numbers and its value
abbrev pub edit_parts : Edit → List (List ℕ)
edit_parts (Alloc key value) = codes "alloc" ∷ decimal key.obj ∷ decimal key.id ∷ value_text value ∷ []
edit_parts (Free key) = codes "free" ∷ decimal key.obj ∷ decimal key.id ∷ []
edit_parts (FreeAll id) = codes "freeall" ∷ decimal id ∷ []
edit_parts (SetData state value) = codes "set" ∷ decimal state ∷ decimal value ∷ []
edit_parts (TakePrev state) = codes "takeprev" ∷ decimal state ∷ []

-- the word of an edit: its parts with colons between them
abbrev pub edit_word : Edit → List ℕ
edit_word edit = join_with_byte 58 (edit_parts edit)

-- the words of a script: its status, and its edits
abbrev pub script_words : Script → List (List ℕ)
script_words script = signed_decimal script.status ∷ map edit_word script.edits

-- a value has at most the allowed number of bytes
abbrev pub IsValue : ShadowValue → Type 0
IsValue value = (length value ≤ MAX_VALUE_BYTES) × IsBytes value

-- the numbers of an edit have 64 bits
abbrev pub IsEdit : Edit → Type 0
IsEdit (Alloc key value) = (key.obj < 2 ^ 64) × (key.id < 2 ^ 64) × IsValue value
IsEdit (Free key) = (key.obj < 2 ^ 64) × (key.id < 2 ^ 64)
IsEdit (FreeAll id) = id < 2 ^ 64
IsEdit (SetData state value) = (state < 2 ^ 64) × (value < 2 ^ 64)
IsEdit (TakePrev state) = state < 2 ^ 64

-- a status has 32 bits, and with a status other than 0 there are no edits
pub record IsScript (script : Script) : Type 0 where
  pub status : FitsSigned w32 script.status
  pub edits : AllByRecursion IsEdit script.edits
  pub failed : is_success script.status ≡ false → script.edits ≡ []
