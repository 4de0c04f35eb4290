-- What a booted manager serves is served over its text.
use Rattle.std.proofs.Common.{◌≡◌, ℕ, List, Result, Ok, Err}
use Rattle.klp_catalog_text.specs.Plan.{Plan}
use Rattle.klp_catalog_text.specs.Text.{plan_of}
use Rattle.klp_core.specs.Journaled.{Journaled}
use Rattle.klp_console.specs.declared.served.Served.{Served}
use Rattle.klp_boot.specs.declared.fault.Fault.{Fault}
use Rattle.klp_boot.specs.declared.fault.Fault.TheVariants.{CannotRead, NoMemory, Text, Image, Assemble, Boot, Serve, Trace}
use Rattle.klp_boot.specs.Booted.{IsBootedOver}
use Rattle.klp_boot.specs.Over.{IsBootFaultOf}
use Rattle.klp_program.specs.Runs.{Streams, ServesBy, Runs}

-- the text's plan was booted
pub runs_booted : (text : List ℕ) (plan : Plan) (booted : Journaled) (before after : Streams) (result : Result Served Fault)
    → plan_of text ≡ Ok plan → IsBootedOver plan booted → ServesBy booted before after result → Runs text before after result
runs_booted text plan booted before after (Ok served) planned is by =
    record { plan = plan; planned = planned; booted = booted; is_booted = is; left = by.0; comes_to = by.1 }
runs_booted text plan booted before after (Err (Serve fault)) planned is by =
    record { plan = plan; planned = planned; booted = booted; is_booted = is; left = by.0; comes_to = by.1 }
runs_booted text plan booted before after (Err CannotRead) planned is by = absurd by
runs_booted text plan booted before after (Err NoMemory) planned is by = absurd by
runs_booted text plan booted before after (Err (Text fault)) planned is by = absurd by
runs_booted text plan booted before after (Err (Image fault)) planned is by = absurd by
runs_booted text plan booted before after (Err (Assemble fault)) planned is by = absurd by
runs_booted text plan booted before after (Err (Boot fault)) planned is by = absurd by
runs_booted text plan booted before after (Err (Trace fault)) planned is by = absurd by

-- nothing was
pub runs_none : (text : List ℕ) (before after : Streams) (fault : Fault) → after ≡ before → IsBootFaultOf text fault → Runs text before after (Err fault)
runs_none text before after (Serve fault) same why = absurd why.2
runs_none text before after CannotRead same why = (same, why)
runs_none text before after NoMemory same why = (same, why)
runs_none text before after (Text fault) same why = (same, why)
runs_none text before after (Image fault) same why = (same, why)
runs_none text before after (Assemble fault) same why = (same, why)
runs_none text before after (Boot fault) same why = (same, why)
runs_none text before after (Trace fault) same why = (same, why)
