-- A new function, as a `func` line describes it.
use Rattle.std.specs.Prelude.{ℕ, List}

-- a new function: the symbol that it replaces, by name and position, its own name and its address
pub record PlanFunction : Type 0 where
  pub symbol : List ℕ
  -- which of the symbols of this name in the object, from 1; 0 if the name must be unique
  pub sympos : ℕ
  pub new_name : List ℕ
  pub address : ℕ
