-- Parts of a file, and the texts in them.
use Rattle.std.specs.Prelude.{ℕ, ◌+◌, ◌==◌, nat_eq, nat_le, if◌then◌else◌, Bool, true, false, List, [], ◌∷◌, length, drop, slice_get, slice_range, Option, Some, None}
use Rattle.std.specs.List.{before_first, ends_with}
use Rattle.klp_elf.specs.declared.row.Section.{Section}
use Rattle.klp_elf.specs.declared.row.SectionKind.{SectionKind}
use Rattle.klp_elf.specs.declared.row.SectionKind.TheVariants.{NoBytes}

abbrev pub is_inside : ℕ → ℕ → List ℕ → Bool
is_inside offset size bytes = nat_le (offset + size) (length bytes)

-- some bytes from an offset on; none if they aren't all inside
abbrev pub part : ℕ → ℕ → List ℕ → List ℕ
part offset size bytes = if is_inside offset size bytes then slice_range bytes offset (offset + size) else []

-- a section has bytes in the file
abbrev pub has_bytes : SectionKind → Bool
has_bytes NoBytes = false
has_bytes kind = true

-- the bytes of a section
abbrev pub bytes_of : List ℕ → Section → List ℕ
bytes_of bytes section = if has_bytes section.kind then part section.offset section.size bytes else []

abbrev pub bytes_of_some : List ℕ → Option Section → List ℕ
bytes_of_some bytes None = []
bytes_of_some bytes (Some section) = bytes_of bytes section

-- the bytes of the section with this number; none if there is no such section
abbrev pub bytes_in : List ℕ → List Section → ℕ → List ℕ
bytes_in bytes sections number = bytes_of_some bytes (slice_get sections number)

-- names end with a 0, so that each of them has an end
abbrev pub is_closed : List ℕ → Bool
is_closed names = ends_with nat_eq names (0 ∷ [])

abbrev pub is_zero : ℕ → Bool
is_zero b = b == 0

-- the text that begins at a place, up to the first 0
abbrev pub text_at : List ℕ → ℕ → List ℕ
text_at names at = before_first is_zero (drop at names)
