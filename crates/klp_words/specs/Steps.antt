-- Steps that may fail.
use Rattle.std.specs.Prelude.{Result, Ok, Err}

-- runs the second step on the value of the first, if that didn't fail
infixl 10 ◌>>=◌
abbrev pub ◌>>=◌ : {A B E : Type 0} → Result A E → (A → Result B E) → Result B E
(Ok x) >>= f = f x
(Err e) >>= f = Err e
