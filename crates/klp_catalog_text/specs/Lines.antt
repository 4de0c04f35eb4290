-- The lines of a catalog's text, their words, and what one line says.
use Rattle.std.specs.Prelude.{ℕ, ◌==◌, not, Bool, true, false, nat_lt, if◌then◌else◌, List, [], ◌∷◌, length, codes, Option, Some, None, Result, Ok, Err, bytes_eq}
use Rattle.std.specs.List.{list_all}
use Rattle.std.specs.Char.{is_ascii}
use Rattle.klp_types.specs.declared.callback.Which.{Which}
use Rattle.klp_types.specs.declared.callback.Which.TheVariants as which
use Rattle.klp_types.specs.declared.limits.TheConstants.{MAX_LINE}
use Rattle.klp_catalog_text.specs.declared.fault.TextFaultKind.{TextFaultKind}
use Rattle.klp_catalog_text.specs.declared.fault.TextFaultKind.TheVariants.{NotAscii, LineTooLong, UnknownWord, WrongCount}
use Rattle.klp_catalog_text.specs.declared.line.Keyword.{Keyword}
use Rattle.klp_catalog_text.specs.declared.line.Keyword.TheVariants as keyword
use Rattle.klp_catalog_text.specs.declared.line.CatalogLine.{CatalogLine}
use Rattle.klp_catalog_text.specs.declared.line.CatalogLine.TheVariants as line
use Rattle.klp_words.specs.declared.split.Separators.TheVariants.{SpacesAndTabs}
use Rattle.klp_words.specs.Split.{separates, words_between}
use Rattle.klp_words.specs.Words.{spelling_of}
use Rattle.klp_catalog_text.specs.Words.{name_of, symbol_name_of, address_of, body_of, id_of, version_of, symbol_of}
use Rattle.klp_catalog_text.specs.Edits.{script_of}
use Rattle.klp_words.specs.Steps.{◌>>=◌}

-- the words of a line: spaces and tabs separate them
abbrev pub words_of : List ℕ → List (List ℕ)
words_of line = words_between (separates SpacesAndTabs) line

-- whether a line is a comment: its very first byte is `#`
abbrev pub is_comment : List ℕ → Bool
is_comment [] = false
is_comment (b ∷ bs) = b == 35

-- the kind of line that begins with this word
abbrev pub keyword_of : List ℕ → Option Keyword
keyword_of word =
    if bytes_eq word (codes "handler") then Some keyword.Handler
    else if bytes_eq word (codes "object") then Some keyword.Object
    else if bytes_eq word (codes "symbol") then Some keyword.Symbol
    else if bytes_eq word (codes "patch") then Some keyword.Patch
    else if bytes_eq word (codes "target") then Some keyword.Target
    else if bytes_eq word (codes "func") then Some keyword.Func
    else if bytes_eq word (codes "pre") then Some (keyword.Callback which.Pre)
    else if bytes_eq word (codes "post") then Some (keyword.Callback which.Post)
    else if bytes_eq word (codes "preun") then Some (keyword.Callback which.PreUn)
    else if bytes_eq word (codes "postun") then Some (keyword.Callback which.PostUn)
    else if bytes_eq word (codes "state") then Some keyword.State
    else None

-- what the words after each keyword say: first their number is checked, then each word from left to right
abbrev pub handler_line : List (List ℕ) → Result CatalogLine TextFaultKind
handler_line (address ∷ []) = address_of address >>= λ a. Ok (line.Handler a)
handler_line words = Err WrongCount

-- exactly one name
abbrev pub only_name : List (List ℕ) → Result (List ℕ) TextFaultKind
only_name (name ∷ []) = name_of name
only_name words = Err WrongCount

abbrev pub object_line : List (List ℕ) → Result CatalogLine TextFaultKind
object_line (name ∷ []) = name_of name >>= λ n. Ok (line.Object n)
object_line words = Err WrongCount

abbrev pub symbol_line : List (List ℕ) → Result CatalogLine TextFaultKind
symbol_line (name ∷ address ∷ body ∷ []) =
    symbol_name_of name >>= λ n. address_of address >>= λ a. body_of body >>= λ b. Ok (line.Symbol (record { name = n; address = a; body = b }))
symbol_line words = Err WrongCount

-- nothing may follow `replace`
abbrev pub replace_line : List ℕ → List (List ℕ) → Result CatalogLine TextFaultKind
replace_line name [] = name_of name >>= λ n. Ok (line.Patch n true)
replace_line name words = Err WrongCount

-- the name of a patch is followed by nothing or by `replace`
abbrev pub patch_line : List (List ℕ) → Result CatalogLine TextFaultKind
patch_line [] = Err WrongCount
patch_line (name ∷ []) = name_of name >>= λ n. Ok (line.Patch n false)
patch_line (name ∷ word ∷ words) = if bytes_eq word (codes "replace") then replace_line name words else Err UnknownWord

abbrev pub target_line : List (List ℕ) → Result CatalogLine TextFaultKind
target_line (object ∷ []) = name_of object >>= λ n. Ok (line.Target n)
target_line words = Err WrongCount

-- `target` is the name of the open target's object, if a target is open
abbrev pub func_line : Option (List ℕ) → List (List ℕ) → Result CatalogLine TextFaultKind
func_line target (symbol ∷ name ∷ address ∷ []) =
    symbol_of target (spelling_of symbol) >>= λ s. name_of name >>= λ n. address_of address
    >>= λ a. Ok (line.Function (record { symbol = s.symbol; sympos = s.sympos; new_name = n; address = a }))
func_line target words = Err WrongCount

-- a status, and edits if the status is 0
abbrev pub callback_line : Which → List (List ℕ) → Result CatalogLine TextFaultKind
callback_line which words = script_of words >>= λ s. Ok (line.Callback which s)

abbrev pub state_line : List (List ℕ) → Result CatalogLine TextFaultKind
state_line (id ∷ version ∷ []) = id_of id >>= λ i. version_of version >>= λ v. Ok (line.State (record { id = i; version = v }))
state_line words = Err WrongCount

abbrev pub line_of_words : Option (List ℕ) → Option Keyword → List (List ℕ) → Result CatalogLine TextFaultKind
line_of_words target None words = Err UnknownWord
line_of_words target (Some keyword.Handler) words = handler_line words
line_of_words target (Some keyword.Object) words = object_line words
line_of_words target (Some keyword.Symbol) words = symbol_line words
line_of_words target (Some keyword.Patch) words = patch_line words
line_of_words target (Some keyword.Target) words = target_line words
line_of_words target (Some keyword.Func) words = func_line target words
line_of_words target (Some (keyword.Callback which)) words = callback_line which words
line_of_words target (Some keyword.State) words = state_line words

-- what a line says: its whole text is checked first, then its first word, then the words after it
abbrev pub line_of : Option (List ℕ) → List ℕ → List ℕ → List (List ℕ) → Result CatalogLine TextFaultKind
line_of target text first words =
    if not (list_all is_ascii text) then Err NotAscii
    else if nat_lt MAX_LINE (length text) then Err LineTooLong
    else line_of_words target (keyword_of first) words
