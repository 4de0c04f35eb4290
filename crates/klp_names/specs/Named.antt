-- What a task is called.
use Rattle.std.specs.Prelude.{ℕ, List}

pub record Named : Type 0 where
  pub task : ℕ
  pub name : List ℕ
