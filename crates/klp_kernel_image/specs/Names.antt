-- The names of a kernel's symbols. They are packed: each byte stands for a token, a piece of a name.
use Rattle.std.specs.Prelude.{ℕ, List, [], Option, Some, None, drop, take, slice_get}
use Rattle.std.specs.List.{flat_map}
use Rattle.klp_kernel_image.specs.declared.tokens.Token.{Token}

abbrev pub text_of : Option Token → List ℕ
text_of None = []
text_of (Some token) = token.text.now

-- the token for which a byte stands
abbrev pub token : List Token → ℕ → List ℕ
token tokens code = text_of (slice_get tokens code)

-- what a packed name spells, its letter first: the tokens of its bytes, one behind the other
abbrev pub spelled : List Token → List ℕ → List ℕ
spelled tokens codes = flat_map (token tokens) codes

-- so many bytes of a text, from a place on
abbrev pub text_part : ℕ → ℕ → List ℕ → List ℕ
text_part start length text = take length (drop start text)
