-- Texts that act on nothing around them.
use Rattle.std.specs.Prelude.{ℕ, zero, suc, ◌≡◌, ◌<◌, ◌-◌, ◌==◌, ◌&&◌, ◌||◌, not, nat_le, Bool, List, [], ◌∷◌}
use Rattle.klp_markup.specs.Characters.{shown_bytes}

-- A byte that neither begins nor ends markup, and is no control byte but a line feed.
abbrev pub is_harmless : ℕ → Bool
is_harmless b = b == 10 || (nat_le 32 b && not (b == 34 || b == 39 || b == 60 || b == 62 || b == 127))

-- The text is made of whole characters, and none of them acts on what is around it. Of the character before, so many bytes
-- are still to come.
abbrev pub AreShown : ℕ → List ℕ → Type 0
AreShown kept [] = kept ≡ 0
AreShown zero (b ∷ bytes) = (0 < shown_bytes (b ∷ bytes)) × AreShown (shown_bytes (b ∷ bytes) - 1) bytes
AreShown (suc kept) (b ∷ bytes) = AreShown kept bytes
