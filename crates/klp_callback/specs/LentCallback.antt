-- What contracts know of a callback: its script, and how many times it ran.
use Rattle.std.specs.Prelude.{ℕ, ℤ, ◌+◌, ◌-◌, ◌^◌, min}
use Rattle.klp_types.specs.Script.{Script}

pub record LentCallback : Type 0 where
  pub script : Script
  pub runs : ℕ

-- a callback that edits nothing: the status that it returns, and how many times it ran
pub record Refusal : Type 0 where
  pub status : ℤ
  pub runs : ℕ

-- the count after one more run; it stops at the greatest number of 64 bits
abbrev pub counted : ℕ → ℕ
counted runs = min (runs + 1) (2 ^ 64 - 1)

-- the callback after one more run
abbrev pub after_run : LentCallback → LentCallback
after_run lent = record lent { runs = counted lent.runs }
