-- The bytes of the text.
use Rattle.std.specs.Prelude.{ℕ, suc, ◌+◌, ◌-◌, ◌^◌, ◌==◌, ℤ, pos, negsuc, ◌-ℤ◌, int_lt, int_le, Bool, ◌&&◌, List, [], ◌∷◌, ◌++◌, take, drop, Option, Some, None, option_map, if◌then◌else◌, slice_get}
use Rattle.std.specs.List.{starts_with}
use Rattle.std.specs.Int.{to_le_bytes, cast_unsigned, w32}
use Rattle.klp_types.specs.Image.{Symbol, Object, Image, first_site}

-- ENDBR64, f3 0f 1e fa: the first instruction of a function that may be called through a pointer while the
-- processor tracks such calls
abbrev pub endbr64 : List ℕ
endbr64 = 243 ∷ 15 ∷ 30 ∷ 250 ∷ []

-- the offset of the entry site in a body: after an ENDBR64 if the body begins with one, else 0
abbrev pub entry_offset : List ℕ → ℕ
entry_offset body = if starts_with (λ a b. a == b) body endbr64 then 4 else 0

-- the offset after the entry site, which is as long as a call
abbrev pub entry_end : List ℕ → ℕ
entry_end body = entry_offset body + 5

-- the address of a symbol's entry site
abbrev pub entry_address : Symbol → ℕ
entry_address symbol = symbol.address + entry_offset symbol.body

-- a NOP of five bytes: 0f 1f 44 00 00
abbrev pub nop : List ℕ
nop = 15 ∷ 31 ∷ 68 ∷ 0 ∷ 0 ∷ []

-- the distance from the instruction after the call at this address to the handler
abbrev pub displacement : ℕ → ℕ → ℤ
displacement handler address = pos handler -ℤ pos (address + 5)

-- whether a call at this address reaches the handler: whether the displacement is a signed number of 32 bits
abbrev pub can_reach : ℕ → ℕ → Bool
can_reach handler address =
    int_le (negsuc (2 ^ 31 - 1)) (displacement handler address) && int_lt (displacement handler address) (pos (2 ^ 31))

-- a call of the handler: e8, and the displacement as a signed number of 32 bits, lowest byte first
abbrev pub call : ℕ → ℕ → List ℕ
call handler address = 232 ∷ to_le_bytes w32 (cast_unsigned w32 (displacement handler address))

-- the bytes of the entry site at this address: a call of the handler if it is hooked, else the NOP
abbrev pub entry_bytes : ℕ → ℕ → Bool → List ℕ
entry_bytes handler address hooked = if hooked then call handler address else nop

-- a body with these bytes at its entry site
abbrev pub with_entry : List ℕ → List ℕ → List ℕ
with_entry entry body = take (entry_offset body) body ++ entry ++ drop (entry_end body) body

-- a symbol with the bytes of its entry site replaced
abbrev pub patched : ℕ → Bool → Symbol → Symbol
patched handler hooked symbol = record symbol { body = with_entry (entry_bytes handler (entry_address symbol) hooked) symbol.body }

-- a symbol whose entry site isn't hooked
abbrev pub resting : Symbol → Symbol
resting symbol = record symbol { body = with_entry nop symbol.body }

-- symbols in order with the bytes of their entry sites replaced; the first symbol has this site
abbrev pub patched_from : ℕ → (ℕ → Bool) → ℕ → List Symbol → List Symbol
patched_from handler hooked site [] = []
patched_from handler hooked site (symbol ∷ symbols) =
    patched handler (hooked site) symbol ∷ patched_from handler hooked (suc site) symbols

-- the symbols of an object of the image, given which sites are hooked
abbrev pub text_where : Image → (ℕ → Bool) → ℕ → Option (List Symbol)
text_where image hooked object =
    option_map (λ (found : Object). patched_from image.handler hooked (first_site image.objects object) found.symbols) (slice_get image.objects object)

-- one symbol of an object's text
abbrev pub symbol_in : Option (List Symbol) → ℕ → Option Symbol
symbol_in None number = None
symbol_in (Some symbols) number = slice_get symbols number
