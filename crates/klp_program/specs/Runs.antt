-- What the program comes to over a catalog's text.
use Rattle.std.specs.Prelude.{◌≡◌, ℕ, false, List, Option, Result, Ok, Err}
use Rattle.klp_catalog_text.specs.Plan.{Plan}
use Rattle.klp_catalog_text.specs.Text.{plan_of}
use Rattle.klp_core.specs.Journaled.{Journaled}
use Rattle.klp_console_io.specs.Written.{Written}
use Rattle.klp_console_io.specs.Supply.{Supply}
use Rattle.klp_console.specs.declared.served.Served.{Served}
use Rattle.klp_console.specs.declared.served.ServeFault.{ServeFault}
use Rattle.klp_console.specs.Served.{ComesTo}
use Rattle.klp_boot.specs.declared.fault.Fault.{Fault}
use Rattle.klp_boot.specs.declared.fault.Fault.TheVariants.{Serve}
use Rattle.klp_boot.specs.Booted.{IsBootedOver}
use Rattle.klp_boot.specs.Over.{IsBootFaultOf}

-- what is still to be read, and what was written
pub record Streams : Type 0 where
  pub supply : Supply
  pub written : Written

-- the console was served by this manager
abbrev pub ServesBy : Journaled → Streams → Streams → Result Served Fault → Type 0
ServesBy booted before after (Ok served) = (left : Journaled)
    × ComesTo (record { supply = before.supply; written = before.written; manager = booted }) (record { supply = after.supply; written = after.written; manager = left }) (Ok served)
ServesBy booted before after (Err (Serve fault)) = (left : Journaled)
    × ComesTo (record { supply = before.supply; written = before.written; manager = booted }) (record { supply = after.supply; written = after.written; manager = left }) (Err fault)
ServesBy booted before after (Err fault) = ⊥

-- a manager was booted over the text's plan, and the console was served by it
pub record Serves (text : List ℕ) (before after : Streams) (ended : Result Served ServeFault) : Type 0 where
  pub plan : Plan
  pub planned : plan_of text ≡ Ok plan
  pub booted : Journaled
  pub is_booted : IsBootedOver plan booted
  pub left : Journaled
  pub comes_to : ComesTo (record { supply = before.supply; written = before.written; manager = booted })
      (record { supply = after.supply; written = after.written; manager = left }) ended

-- the console was served, or nothing was read and nothing was written
abbrev pub Runs : List ℕ → Streams → Streams → Result Served Fault → Type 0
Runs text before after (Ok served) = Serves text before after (Ok served)
Runs text before after (Err (Serve fault)) = Serves text before after (Err fault)
Runs text before after (Err fault) = (after ≡ before) × IsBootFaultOf text fault

-- What contracts know of a reader and of a writer of std: the bytes that the one has left, and those that the other
-- took. Of standard input and standard output they know neither.
pub record StdStreams : Type 0 where
  pub left : Option (List ℕ)
  pub taken : Option (List ℕ)

-- these streams before the first read and the first write
abbrev pub unused : StdStreams → Streams
unused std = record {
  supply = record { left = std.left; has_ended = false; failures = 0; reads = 0; asked = 0 };
  written = record { taken = std.taken; failures = 0; stalls = 0 };
}

-- the console was served over streams of std, or nothing was read and nothing was written
pub record RunsOver (text : List ℕ) (before after : StdStreams) (ended : Result Served Fault) : Type 0 where
  pub streams : Streams
  pub runs : Runs text (unused before) streams ended
  pub input : streams.supply.left ≡ after.left
  pub output : streams.written.taken ≡ after.taken

-- the exit status of the program
abbrev pub status_of : Result Served Fault → ℕ
status_of (Ok served) = 0
status_of (Err fault) = 1

-- what the program comes to over streams of std, and its exit status
pub record Exits (text : List ℕ) (before after : StdStreams) (status : ℕ) : Type 0 where
  pub ended : Result Served Fault
  pub runs : RunsOver text before after ended
  pub is_status : status ≡ status_of ended

-- a catalog's text was served between some streams
pub record IsServed (text : List ℕ) (status : ℕ) : Type 0 where
  pub before : StdStreams
  pub after : StdStreams
  pub exits : Exits text before after status
