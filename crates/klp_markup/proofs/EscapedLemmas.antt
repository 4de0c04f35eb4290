-- What a page has in place of a byte.
use Rattle.std.proofs.Common.{◌≡◌, ◌≢◌, ◌==◌, ℕ, false, List, refl, arith}
use Rattle.klp_markup.specs.Characters.{shown_bytes}
use Rattle.klp_markup.specs.Escaped.{escaped_byte, first_text}

-- of the first byte of a character that is shown
pub first_shown : (kept shown b : ℕ) (text : List ℕ) → kept ≡ 0 → shown ≡ shown_bytes text → shown ≢ 0
    → escaped_byte b ≡ first_text kept b text
first_shown kept shown b text none is_shown some = rw (none, ← is_shown, isnt_zero shown some) refl
  where
    isnt_zero : (n : ℕ) → n ≢ 0 → (n == 0) ≡ false
    isnt_zero n some = grind arith
