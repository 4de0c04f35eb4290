-- Answers that are gathered before they are written.
use Rattle.std.specs.Prelude.{ℕ, Bool, List}

-- answers on their way to a sink
pub record Gathered : Type 0 where
  -- what was said and isn't written yet
  pub bytes : List ℕ
  -- how many of the first bytes were gathered at the last call of `hold`, and aren't written yet
  pub held : ℕ
  -- whether the sink has failed
  pub has_failed : Bool
