-- What a source has: the bytes still to be read, and what went wrong.
use Rattle.std.specs.Prelude.{◌≡◌, ℕ, ◌+◌, ◌<◌, ◌≤◌, Bool, true, List, Option, length, take}
use Rattle.std.specs.Io.KnownBytes.{Consumes, Keeps, IsAtEnd}

-- a source as contracts see it
pub record Supply : Type 0 where
  -- the bytes still to be read, if they are known
  pub left : Option (List ℕ)
  -- whether a read into some room gave no byte
  pub has_ended : Bool
  -- how many reads failed
  pub failures : ℕ
  -- how many reads into some room were made; a read that fails counts whatever its room
  pub reads : ℕ
  -- how many bytes were asked for: the room of all reads together
  pub asked : ℕ

-- A read gave `n` bytes: the first `n` of the room that it read into.
pub record Gives (before after : Supply) (room : List ℕ) (n : ℕ) : Type 0 where
  pub fits : n ≤ length room
  pub left : Consumes before.left after.left (take n room)
  -- it ends only if no byte is left
  pub ends : n ≡ 0 → 0 < length room → (after.has_ended ≡ true) × IsAtEnd after.left
  pub goes_on : 0 < n → after.has_ended ≡ before.has_ended
  -- a read into no room changes nothing, and isn't counted
  pub had_no_room : length room ≡ 0 → (after.has_ended ≡ before.has_ended) × (after.reads ≡ before.reads)
  pub failures : after.failures ≡ before.failures
  -- a read into some room is counted
  pub reads : 0 < length room → after.reads ≡ before.reads + 1
  pub asked : after.asked ≡ before.asked + length room

-- A read into this room failed. It took nothing, and is counted.
pub record Fails (before after : Supply) (room : List ℕ) : Type 0 where
  pub left : Keeps before.left after.left
  pub has_ended : after.has_ended ≡ before.has_ended
  pub failures : after.failures ≡ before.failures + 1
  pub reads : after.reads ≡ before.reads + 1
  pub asked : after.asked ≡ before.asked + length room
