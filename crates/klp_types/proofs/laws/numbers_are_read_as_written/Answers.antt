use Rattle.std.proofs.Common.{ap}
use Rattle.std.specs.Prelude.{Some}
use Rattle.std.proofs.lemmas.Nat.{from_le_bytes-to_le_bytes_8}
use Rattle.klp_types.proofs.laws.numbers_are_read_as_written.Goals as goal

pub returns : goal.returns
returns c = λ number below. ap Some (from_le_bytes-to_le_bytes_8 number below)
