-- The result of a search.
use Rattle.std.specs.Prelude.{◌≡◌, Option, Some, IfSome}

-- what is found has the property, nothing else has it, and None is found only if nothing has it
pub record Finds {A : Type 0} (P : A → Type 0) (found : Option A) : Type 0 where
  pub has : IfSome found P
  pub only : (x : A) → P x → found ≡ Some x
