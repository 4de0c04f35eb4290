-- A line with its line feed, and the text in front of that.
use Rattle.std.proofs.Common.{◌≡◌, ◌≢◌, ℕ, Bool, true, false, List, [], ◌∷◌, ◌++◌, refl, sym, ap, ◌∙◌}
use Rattle.std.specs.Str.{bytes_eq}
use Rattle.std.proofs.lemmas.Slice.Eq.{bytes_eq-Decides}
use Rattle.std.proofs.lemmas.Bool.Decides.{same_from_decides}
use Rattle.std.proofs.lemmas.List.{append_cancel_right}

-- a line is of a text where the text stands in front of the line feed
pub line_front : (front text line : List ℕ) → line ≡ front ++ 10 ∷ [] → bytes_eq front text ≡ bytes_eq line (text ++ 10 ∷ [])
line_front front text line is =
    let own = bytes_eq-Decides front text in
    let whole = bytes_eq-Decides line (text ++ 10 ∷ []) in
    same_from_decides (bytes_eq front text) (bytes_eq line (text ++ 10 ∷ [])) own
    (λ e. append_cancel_right front text (10 ∷ []) (sym is ∙ whole.0 e), λ e. whole.1 (is ∙ ap (λ (xs : List ℕ). xs ++ 10 ∷ []) e))

-- and of none where it has no line feed
pub no_front : (text line : List ℕ) → ((front : List ℕ) → line ≢ front ++ 10 ∷ []) → false ≡ bytes_eq line (text ++ 10 ∷ [])
no_front text line never = by (bytes_eq line (text ++ 10 ∷ [])) refl
  where
    by : (b : Bool) → bytes_eq line (text ++ 10 ∷ []) ≡ b → false ≡ b
    by false e = refl
    by true e = absurd (never text ((bytes_eq-Decides line (text ++ 10 ∷ [])).0 e))
