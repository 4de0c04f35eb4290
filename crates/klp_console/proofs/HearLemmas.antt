-- What became of a piece, once its answers are to be written.
use Rattle.std.proofs.Common.{◌≡◌, ℕ, true, false, List, []}
use Rattle.std.proofs.lemmas.Bool.{both_ways}
use Rattle.std.specs.Prelude.{Result, Ok, Err}
use Rattle.klp_console_io.specs.declared.marks.Mark.{Mark}
use Rattle.klp_console_io.specs.Gathered.{Gathered}
use Rattle.klp_console.specs.declared.served.ServeFault.{ServeFault}
use Rattle.klp_console.specs.declared.served.ServeFault.TheVariants.{Read, Write, LineTooLong}
use Rattle.klp_console.specs.Said.{Serving, Ahead, Comes, Hears, IsWritten}

-- a write has failed already
pub hears_failed : (a b : Serving) (pieces : List (List ℕ)) (rest : List ℕ) (result : Result Unit ServeFault) → Hears a b pieces rest result → b.said.0.has_failed ≡ true
    → Hears a b pieces rest (Err Write)
hears_failed a b pieces rest (Ok unit) heard failed = absurd (both_ways _ heard.2.serves.still failed)
hears_failed a b pieces rest (Err LineTooLong) heard failed = absurd (both_ways _ heard.5.serves.still failed)
hears_failed a b pieces rest (Err Write) heard failed = heard
hears_failed a b pieces rest (Err Read) heard failed = absurd heard

-- what is gathered was written
pub hears_written : (a b c : Serving) (pieces : List (List ℕ)) (rest : List ℕ) (result : Result Unit ServeFault) → Hears a b pieces rest result → b.said.0.has_failed ≡ false
    → ((lines : List (List ℕ)) → Ahead a b lines → Comes a c lines) → c.said.0.has_failed ≡ false → Hears a c pieces rest result
hears_written a b c pieces rest (Ok unit) heard still comes calm = (heard.0, heard.1, (comes heard.0 heard.2).0 calm)
hears_written a b c pieces rest (Err LineTooLong) heard still comes calm = (heard.0, heard.1, heard.2, heard.3, heard.4, (comes heard.0 heard.5).0 calm)
hears_written a b c pieces rest (Err Write) heard still comes calm = absurd (both_ways _ still heard.5)
hears_written a b c pieces rest (Err Read) heard still comes calm = absurd heard

-- it couldn't be written
pub hears_cut : (a b c : Serving) (pieces : List (List ℕ)) (rest : List ℕ) (result : Result Unit ServeFault) → Hears a b pieces rest result → b.said.0.has_failed ≡ false
    → ((lines : List (List ℕ)) → Ahead a b lines → Comes a c lines) → c.said.0.has_failed ≡ true → Hears a c pieces rest (Err Write)
hears_cut a b c pieces rest (Ok unit) heard still comes failed = (heard.0, rest, [], heard.1, (comes heard.0 heard.2).1 failed, failed)
hears_cut a b c pieces rest (Err LineTooLong) heard still comes failed = (heard.0, heard.1, heard.2, heard.3, (comes heard.0 heard.5).1 failed, failed)
hears_cut a b c pieces rest (Err Write) heard still comes failed = absurd (both_ways _ still heard.5)
hears_cut a b c pieces rest (Err Read) heard still comes failed = absurd heard

pub written_of : (gathered : Gathered) (marks : List Mark) (result : Result Unit ServeFault) → gathered.bytes ≡ [] → marks ≡ [] → IsWritten gathered marks result
written_of gathered marks (Ok unit) empty unmarked = (empty, unmarked)
written_of gathered marks (Err Read) empty unmarked = (empty, unmarked)
written_of gathered marks (Err Write) empty unmarked = tt
written_of gathered marks (Err LineTooLong) empty unmarked = (empty, unmarked)
