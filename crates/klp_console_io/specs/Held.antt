-- Room in memory as contracts see it.
use Rattle.std.specs.Prelude.{ℕ, ◌-◌, List, Option, Some, length, min}
use Rattle.klp_console_io.specs.Written.{Written}

-- bytes in memory that a sink took
pub record Held : Type 0 where
  -- the bytes taken
  pub bytes : List ℕ
  -- how many bytes one write takes at most
  pub most : ℕ
  -- how many writes come before the one that fails, if one does
  pub fails_in : Option ℕ
  -- how many writes failed
  pub failures : ℕ
  -- how many writes of some bytes took none
  pub stalls : ℕ

-- the room as a sink
abbrev pub written_of : Held → Written
written_of held = record { taken = Some held.bytes; failures = held.failures; stalls = held.stalls }

-- how many of `n` bytes a write takes, if there is room for `room` bytes in all
abbrev pub room_for : Held → ℕ → ℕ → ℕ
room_for held room n = min (min held.most (room - length held.bytes)) n
