-- The text of one loaded object.
use Rattle.std.specs.Prelude.{ℕ, List, [], Option, Some, None}
use Rattle.klp_types.specs.Image.{Symbol}
use Rattle.klp_types.specs.Bytes.{text_where}
use Rattle.klp_text.specs.TextImage.{TextImage, is_hooked_at}

abbrev pub or_none : Option (List Symbol) → List Symbol
or_none None = []
or_none (Some symbols) = symbols

-- the symbols of an object of an image, with the bytes that the text has
abbrev pub symbols_at : TextImage → ℕ → List Symbol
symbols_at text object = or_none (text_where text.image (is_hooked_at text) object)
