-- Lists that are stored in an array: all elements after the last item are the same.
use Rattle.std.specs.Prelude.{◌≡◌, ℕ, ◌-◌, List, ◌++◌, length, take, replicate}
use Rattle.std.proofs.Common.{sym}

-- a list, followed by fillers up to the room of the array
abbrev pub padded : {A : Type 0} → ℕ → A → List A → List A
padded room filler items = items ++ replicate (room - length items) filler

-- the array has `count` items, followed by fillers
abbrev pub IsPadded : {A : Type 0} → ℕ → A → List A → ℕ → Type 0
IsPadded room filler kept count = (length (take count kept) ≡ count) × (kept ≡ padded room filler (take count kept))

pub is_padded : {A : Type 0} (room : ℕ) (filler : A) (kept : List A) (count : ℕ) → IsPadded room filler kept count → padded room filler (take count kept) ≡ kept
is_padded room filler kept count h = sym h.1
