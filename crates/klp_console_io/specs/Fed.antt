-- A feed from memory as contracts see it.
use Rattle.std.specs.Prelude.{ℕ, Bool, List, Option, Some, length, min}
use Rattle.klp_console_io.specs.Supply.{Supply}

-- bytes in memory that a source gives
pub record Fed : Type 0 where
  -- the bytes that are still to be read
  pub left : List ℕ
  -- how many bytes one read gives at most
  pub most : ℕ
  -- how many reads come before the one that fails, if one does
  pub fails_in : Option ℕ
  -- whether a read into some room gave no byte
  pub has_ended : Bool
  -- how many reads failed
  pub failures : ℕ
  -- how many reads into some room were made, or failed
  pub reads : ℕ
  -- the room of all reads together
  pub asked : ℕ

-- the feed as a source
abbrev pub supply_of : Fed → Supply
supply_of fed = record { left = Some fed.left; has_ended = fed.has_ended; failures = fed.failures; reads = fed.reads; asked = fed.asked }

-- how many bytes a read gives into this much room
abbrev pub given : Fed → ℕ → ℕ
given fed room = min (min fed.most (length fed.left)) room
