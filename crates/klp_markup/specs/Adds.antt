-- What it is to add a text to a page.
use Rattle.std.specs.Prelude.{◌≡◌, ℕ, Bool, false, List, ◌++◌}

-- what is written of a page
pub record Written : Type 0 where
  pub text : List ℕ
  -- whether memory was refused, so that some of it is missing
  pub is_short : Bool

-- The text stands behind what was written before, unless memory was refused by then.
pub record Adds (before after : Written) (text : List ℕ) : Type 0 where
  pub adds : after.is_short ≡ false → (before.is_short ≡ false) × (after.text ≡ before.text ++ text)
