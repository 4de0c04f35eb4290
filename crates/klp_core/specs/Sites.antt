-- How many sites an object has.
use Rattle.std.specs.Prelude.{ℕ, List, length, slice_get, option_map}
use Rattle.std.specs.Option.{unwrap_or}
use Rattle.klp_types.specs.Image.{Object}

-- one for each of its symbols; an object that doesn't exist has none
abbrev pub sites_in : List Object → ℕ → ℕ
sites_in objects number = unwrap_or (option_map (λ (object : Object). length object.symbols) (slice_get objects number)) 0
