-- What was written to a sink.
use Rattle.std.specs.Prelude.{ℕ, List, Option}

-- a sink as contracts see it
pub record Written : Type 0 where
  -- the bytes that it took, if they are known
  pub taken : Option (List ℕ)
  -- how many writes failed
  pub failures : ℕ
  -- how many writes of some bytes took none
  pub stalls : ℕ
