-- The bytes at which a hook is written.
use Rattle.std.specs.Prelude.{ℕ, nat_lt, List, take, drop, length, Option, Some, None, if◌then◌else◌}
use Rattle.klp_types.specs.Bytes.{entry_offset, entry_end}

-- the bytes of the entry site in a body; none if the body ends before them
abbrev pub entry_bytes : List ℕ → Option (List ℕ)
entry_bytes body = if nat_lt (length body) (entry_end body) then None else Some (take 5 (drop (entry_offset body) body))
