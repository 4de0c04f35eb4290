-- What is among the elements of a list.
use Rattle.std.proofs.Common.{◌≡◌, ℕ, ◌<◌, List, [], ◌∷◌, map, ◌⊎◌, inl, inr, refl, arith}
use Rattle.std.specs.Prelude.{Contains}
use Rattle.std.proofs.lemmas.List.Elements.{Contains-append_right, Contains-append_cases, Contains-push_cases}

pub none_among : {X : Type 0} (x : X) → Contains [] x → ⊥
none_among x among = none among.1
  where
    none : {k : ℕ} → k < 0 → ⊥
    none lt = omega arith

pub first_among : {X : Type 0} (x : X) (xs : List X) → Contains (x ∷ xs) x
first_among x xs = (0, omega arith, refl)

pub later_among : {X : Type 0} (x : X) (xs : List X) (y : X) → Contains xs y → Contains (x ∷ xs) y
later_among x xs y among = Contains-append_right (x ∷ []) xs y among

pub first_or_later : {X : Type 0} (x : X) (xs : List X) (y : X) → Contains (x ∷ xs) y → (x ≡ y) ⊎ Contains xs y
first_or_later x xs y among = elim (Contains-append_cases (x ∷ []) xs y among) [
  | inl one ↦ elim (Contains-push_cases [] x y one) [ inl none ↦ absurd (none_among y none) | inr same ↦ inl same ]
  | inr later ↦ inr later
]

pub image_among : {X Y : Type 0} (f : X → Y) (xs : List X) (x : X) → Contains xs x → Contains (map f xs) (f x)
image_among f [] x among = absurd (none_among x among)
image_among f (own ∷ xs) x among = elim (first_or_later own xs x among) [
  | inl same ↦ rw (← same) (first_among (f own) (map f xs))
  | inr later ↦ later_among (f own) (map f xs) (f x) (image_among f xs x later)
]

-- an element that a list of images has is the image of one
pub record IsImage {X Y : Type 0} (f : X → Y) (xs : List X) (y : Y) : Type 0 where
  pub of : X
  pub among : Contains xs of
  pub is : f of ≡ y

pub image_of : {X Y : Type 0} (f : X → Y) (xs : List X) (y : Y) → Contains (map f xs) y → IsImage f xs y
image_of f [] y among = absurd (none_among y among)
image_of f (own ∷ xs) y among = elim (first_or_later (f own) (map f xs) y among) [
  | inl same ↦ record { of = own; among = first_among own xs; is = same }
  | inr later ↦ (let found = image_of f xs y later in record { of = found.of; among = later_among own xs found.of found.among; is = found.is })
]
